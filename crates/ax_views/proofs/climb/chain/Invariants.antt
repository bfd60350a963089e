use Rattle.ax_trees.specs.Nodes.{depth}
use Rattle.ax_views.proofs.Climbing.{IsClimbed}
use Rattle.ax_views.proofs.climb.chain.Given as goal

abbrev pub invariant-loop-above : goal.invariant-loop-above
invariant-loop-above g l = IsClimbed (g.T.TreeView.tree l.t).trees l.fn.id l.at l.climbed

abbrev pub decreases-loop-above : goal.decreases-loop-above
decreases-loop-above g l = depth (g.T.TreeView.tree l.t).trees l.at
