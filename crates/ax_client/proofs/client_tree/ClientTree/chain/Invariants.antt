use Rattle.ax_trees.specs.Nodes.{depth}
use Rattle.ax_views.proofs.Climbing.{IsClimbed}
use Rattle.ax_client.proofs.client_tree.ClientTree.chain.Given as goal

abbrev pub invariant-loop-above : goal.invariant-loop-above
invariant-loop-above l = IsClimbed l.self.tree l.fn.id l.at l.climbed

abbrev pub decreases-loop-above : goal.decreases-loop-above
decreases-loop-above l = depth l.self.tree l.at
