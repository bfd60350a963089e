use Rattle.std.proofs.Common.{◌≡◌, true, ◌+◌}
use Rattle.ax_trees.specs.Trees.{has}
use Rattle.ax_trees.specs.Nodes.{depth}
use Rattle.ax_views.proofs.climb.depth.Given as goal

-- the steps taken, and those that are left
abbrev pub invariant-loop-above : goal.invariant-loop-above
invariant-loop-above g l = record {
  there : has (g.T.TreeView.tree l.t).trees l.at ≡ true;
  left : l.depth + depth (g.T.TreeView.tree l.t).trees l.at ≡ depth (g.T.TreeView.tree l.fn.t).trees l.fn.id + 1;
}

abbrev pub decreases-loop-above : goal.decreases-loop-above
decreases-loop-above g l = depth (g.T.TreeView.tree l.t).trees l.at
