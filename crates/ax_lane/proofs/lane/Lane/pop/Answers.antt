use Rattle.ax_lane.proofs.Moves.{takes, learns}
use Rattle.ax_lane.proofs.lane.Lane.pop.Goals as goal

pub pop_as-requires-clause-rule : goal.pop_as-requires-clause-rule
pop_as-requires-clause-rule g c = (takes _ _ c.rx.invariant.takes c.rx.invariant.idle, learns _ _ c.rx.invariant.takes)
