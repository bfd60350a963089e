use Rattle.std.proofs.Common.{vec_len}
use Rattle.ax_hub.specs.Closing.{AreMade}
use Rattle.ax_hub.proofs.Closed.{ClosedSoFar}
use Rattle.ax_hub.proofs.closing.close_frames.Given as goal

abbrev pub invariant-loop-turn : goal.invariant-loop-turn
invariant-loop-turn l = record {
  so_far : ClosedSoFar l.fn.seats.items l.fn.deliveries.items l.turns.items l.seats.items l.deliveries.items l.closed.frames.items l.closed.senders.items l.closed.kept.items;
  made : AreMade l.closed.frames.items l.closed.made.items;
}

abbrev pub decreases-loop-turn : goal.decreases-loop-turn
decreases-loop-turn l = vec_len l.turns
