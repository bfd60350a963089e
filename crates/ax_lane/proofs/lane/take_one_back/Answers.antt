use Rattle.ax_lane.proofs.Moves.{returns}
use Rattle.ax_lane.proofs.lane.take_one_back.Goals as goal

pub absorb-requires-clause-rule : goal.absorb-requires-clause-rule
absorb-requires-clause-rule c = returns _ _ _ _ c.requires.taker.0 c.requires.taker.1 c.tx.invariant.sends
