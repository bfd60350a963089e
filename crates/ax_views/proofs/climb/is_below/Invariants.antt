use Rattle.std.proofs.Common.{◌≡◌}
use Rattle.ax_trees.specs.Trees.{has}
use Rattle.ax_trees.specs.Nodes.{below, depth}
use Rattle.ax_views.proofs.climb.is_below.Given as goal

abbrev pub invariant-loop-above : goal.invariant-loop-above
invariant-loop-above g l = has (below (g.T.TreeView.tree l.t).trees l.fn.over) l.at ≡ has (below (g.T.TreeView.tree l.t).trees l.fn.over) l.fn.id

abbrev pub decreases-loop-above : goal.decreases-loop-above
decreases-loop-above g l = depth (g.T.TreeView.tree l.t).trees l.at
