use Rattle.ax_lane_uses.specs.Plain.{HasSent}
use Rattle.ax_lane_uses.proofs.three.send_all.Given as goal

abbrev pub invariant-loop-number : goal.invariant-loop-number
invariant-loop-number g l = HasSent l.lane l.fn.tree l.number l.tx
