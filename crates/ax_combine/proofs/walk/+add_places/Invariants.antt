use Rattle.std.proofs.Common.{◌≡◌, ◌*◌, ◌+◌, ◌++◌, flat_map, take}
use Rattle.ax_trees.specs.Trees.{height}
use Rattle.ax_trees.specs.Nodes.{below}
use Rattle.ax_combine.specs.Runs.{run_at}
use Rattle.ax_combine.proofs.walk.+add_places.Given as goal

abbrev pub decreases-add_places : goal.decreases-add_places
decreases-add_places g l = l.levels * 300 + height (below (g.G.Tree.TreeView.tree l.view.now).trees l.p.now.node)

abbrev pub invariant-loop-child : goal.invariant-loop-child
invariant-loop-child g l = l.found ≡ l.initial.found ++ flat_map (run_at l.levels (g.G.Grove.forest l.g) l.p.tree (g.G.Tree.TreeView.tree l.view).trees) (take l.child-index l.children)
