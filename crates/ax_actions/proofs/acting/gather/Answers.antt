use Rattle.std.proofs.Common.{refl}
use Rattle.ax_actions.proofs.ActingLemmas.{gathered_none}
use Rattle.ax_actions.proofs.acting.gather.Goals as goal

pub loop-slot-init : goal.loop-slot-init
loop-slot-init c = gathered_none _ _ _ refl c.in_ok-frames.ensures.items c.new-lines.ensures

pub loop-slot-preserved : goal.loop-slot-preserved
loop-slot-preserved c = c.in_ok-gather_one.ensures c.loop-slot.yielded c.loop-slot.invariant
