use Rattle.std.proofs.Common.{◌≡◌, ◌*◌, ◌+◌, find, flat_map, take, None}
use Rattle.ax_trees.specs.Trees.{height}
use Rattle.ax_trees.specs.Nodes.{below}
use Rattle.ax_unignored.specs.Shows.{shows}
use Rattle.ax_unignored.specs.Runs.{run_at}
use Rattle.ax_unignored.proofs.forward.+first_in.Given as goal

abbrev pub decreases-first_in : goal.decreases-first_in
decreases-first_in g l = l.levels * 300 + height (below (g.G.Tree.TreeView.tree l.view.now).trees l.p.now.node)

abbrev pub invariant-loop-child : goal.invariant-loop-child
invariant-loop-child g l =
    find (shows (g.G.Grove.forest l.g)) (flat_map (run_at l.levels (g.G.Grove.forest l.g) l.p.tree (g.G.Tree.TreeView.tree l.view).trees) (take l.child-index l.children)) ≡ None
