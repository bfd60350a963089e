use Rattle.ax_lane.proofs.Moves.{begins}
use Rattle.ax_lane.proofs.lane.Lane.new.Goals as goal

pub with_rule-requires : goal.with_rule-requires
with_rule-requires g c = begins
