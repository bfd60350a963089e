use Rattle.std.proofs.Common.{◌≡◌, take}
use Rattle.ax_trees.specs.Trees.{height}
use Rattle.ax_trees.specs.Nodes.{below, children}
use Rattle.ax_views.proofs.Walking.{heights}
use Rattle.ax_views.proofs.walk.+height_below.Given as goal

abbrev pub decreases-height_below : goal.decreases-height_below
decreases-height_below g l = height (below (g.T.TreeView.tree l.t.now).trees l.id)

abbrev pub invariant-loop-child : goal.invariant-loop-child
invariant-loop-child g l = record {
  items : l.child-items ≡ children (g.T.TreeView.tree l.t).trees l.fn.id;
  high : l.high ≡ heights (g.T.TreeView.tree l.t).trees (take l.child-index l.child-items);
}
