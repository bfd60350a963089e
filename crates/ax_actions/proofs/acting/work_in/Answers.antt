use Rattle.std.proofs.Common.{sym, subst}
use Rattle.ax_actions.specs.declared.acting.Slot.{Slot}
use Rattle.ax_actions.specs.Acting.{IsReady, Works}
use Rattle.ax_actions.proofs.acting.work_in.Goals as goal

pub worked-requires : goal.worked-requires
worked-requires g c = (c.type_bounds.sync-G, subst IsReady (sym c.replace-taken.ensures.value) c.requires)

pub returns : goal.returns
returns g c = subst (λ (s : Slot). Works s c.worked.result) c.replace-taken.ensures.value c.worked.ensures
