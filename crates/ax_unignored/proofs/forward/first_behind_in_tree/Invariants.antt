use Rattle.std.proofs.Common.{◌≡◌, true, find}
use Rattle.ax_trees.specs.Trees.{has}
use Rattle.ax_trees.specs.Nodes.{depth}
use Rattle.ax_stitch.specs.Orders.{behind}
use Rattle.ax_unignored.specs.Shows.{shows}
use Rattle.ax_unignored.specs.Runs.{run}
use Rattle.ax_unignored.proofs.forward.first_behind_in_tree.Given as goal

abbrev pub invariant-loop-above : goal.invariant-loop-above
invariant-loop-above g l = record {
  there : has (g.G.Tree.TreeView.tree l.view).trees l.at ≡ true;
  rest : find (shows (g.G.Grove.forest l.g)) (run l.levels (g.G.Grove.forest l.g) l.tree (behind (g.G.Tree.TreeView.tree l.view).trees l.fn.p.node))
      ≡ find (shows (g.G.Grove.forest l.g)) (run l.levels (g.G.Grove.forest l.g) l.tree (behind (g.G.Tree.TreeView.tree l.view).trees l.at));
}

abbrev pub decreases-loop-above : goal.decreases-loop-above
decreases-loop-above g l = depth (g.G.Tree.TreeView.tree l.view).trees l.at
