use Rattle.std.proofs.Common.{[], ◌∷◌, ◌++◌, sym, subst}
use Rattle.std.specs.List.{AllZip}
use Rattle.ax_actions.specs.Acting.{IsWaiting}
use Rattle.ax_actions.specs.declared.acting.Slot.TheVariants.{Waits}
use Rattle.ax_actions.proofs.ActingLemmas.{zip_push}
use Rattle.ax_actions.proofs.acting.slots_of.Goals as goal

pub loop-share-preserved : goal.loop-share-preserved
loop-share-preserved g c =
    subst (AllZip IsWaiting (c.loop-share.yielded ++ c.in-Some.share ∷ [])) (sym c.in_ok-push.ensures.items)
    (zip_push IsWaiting c.loop-share.yielded c.loop-share.slots.items c.in-Some.share (Waits c.in_ok-job.job) c.loop-share.invariant c.in_ok-job.ensures)
