use Rattle.std.proofs.Common.{sym, subst}
use Rattle.ax_actions.specs.declared.acting.Slot.{Slot}
use Rattle.ax_actions.specs.declared.acting.Slot.TheVariants.{Ends, Lacks}
use Rattle.ax_actions.specs.Acting.{IsReady, Works}
use Rattle.ax_actions.proofs.acting.worked.Goals as goal

pub work-requires : goal.work-requires
work-requires g c = let h = subst IsReady c.in-Waits.is c.requires in (c.type_bounds.sync-G, h)

pub returns-in-Ok : goal.returns-in-Ok
returns-in-Ok g c = subst (λ (s : Slot). Works s (Ends c.in-Ok.acted)) (sym c.in-Waits.is) c.in-Ok.ensures

pub returns-in-Err : goal.returns-in-Err
returns-in-Err g c = subst (λ (s : Slot). Works s Lacks) (sym c.in-Waits.is) tt

pub returns-in-Ends : goal.returns-in-Ends
returns-in-Ends g c = subst (λ (s : Slot). Works s (Ends c.in-Ends.acted)) (sym c.in-Ends.is) tt

pub returns-in-Lacks : goal.returns-in-Lacks
returns-in-Lacks g c = subst (λ (s : Slot). Works s Lacks) (sym c.in-Lacks.is) tt
