use Rattle.std.proofs.Common.{◌≡◌, true}
use Rattle.ax_trees.specs.Trees.{has, ids}
use Rattle.ax_trees.specs.Nodes.{depth}
use Rattle.ax_stitch.specs.Orders.{ahead}
use Rattle.ax_unignored.specs.Shows.{shows}
use Rattle.ax_unignored.specs.Runs.{find_last, run}
use Rattle.ax_unignored.proofs.backward.last_ahead_in_tree.Given as goal

abbrev pub invariant-loop-above : goal.invariant-loop-above
invariant-loop-above g l = record {
  there : has (g.G.Tree.TreeView.tree l.view).trees l.at ≡ true;
  rest : find_last (shows (g.G.Grove.forest l.g)) (run l.levels (g.G.Grove.forest l.g) l.tree (ahead (ids (g.G.Tree.TreeView.tree l.view).trees) l.fn.p.node))
      ≡ find_last (shows (g.G.Grove.forest l.g)) (run l.levels (g.G.Grove.forest l.g) l.tree (ahead (ids (g.G.Tree.TreeView.tree l.view).trees) l.at));
}

abbrev pub decreases-loop-above : goal.decreases-loop-above
decreases-loop-above g l = depth (g.G.Tree.TreeView.tree l.view).trees l.at
