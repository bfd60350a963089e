use Rattle.ax_hub.proofs.Opened.{FramesSoFar}
use Rattle.ax_hub.proofs.opening.frame_side.Given as goal

abbrev pub invariant-loop-tree : goal.invariant-loop-tree
invariant-loop-tree l = FramesSoFar l.lane l.trees l.tree-index l.side.turns.items l.side.seats.items l.side.deliveries.items l.senders.items
