use Rattle.std.proofs.Common.{◌≡◌, ◌≤◌, ◌*◌, ◌+◌, flat_map, length, drop, None}
use Rattle.ax_trees.specs.Trees.{height}
use Rattle.ax_trees.specs.Nodes.{below}
use Rattle.ax_unignored.specs.Shows.{shows}
use Rattle.ax_unignored.specs.Runs.{find_last, run_at}
use Rattle.ax_unignored.proofs.backward.+last_in.Given as goal

abbrev pub decreases-last_in : goal.decreases-last_in
decreases-last_in g l = l.levels * 300 + height (below (g.G.Tree.TreeView.tree l.view.now).trees l.p.now.node)

abbrev pub invariant-loop-left : goal.invariant-loop-left
invariant-loop-left g l = record {
  within : l.left ≤ length l.children;
  none : find_last (shows (g.G.Grove.forest l.g)) (flat_map (run_at l.levels (g.G.Grove.forest l.g) l.p.tree (g.G.Tree.TreeView.tree l.view).trees) (drop l.left l.children)) ≡ None;
}

abbrev pub decreases-loop-left : goal.decreases-loop-left
decreases-loop-left g l = l.left
