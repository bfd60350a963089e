use Rattle.std.proofs.Common.{◌≡◌, ◌*◌, ◌+◌, ◌++◌, flat_map, take}
use Rattle.ax_trees.specs.Trees.{height}
use Rattle.ax_trees.specs.Nodes.{below}
use Rattle.ax_unignored.specs.Tops.{tops_at}
use Rattle.ax_unignored.proofs.inner.+add_tops.Given as goal

abbrev pub decreases-add_tops : goal.decreases-add_tops
decreases-add_tops g l = l.levels * 300 + height (below (g.G.Tree.TreeView.tree l.view.now).trees l.p.now.node)

abbrev pub invariant-loop-child : goal.invariant-loop-child
invariant-loop-child g l = l.found ≡ l.initial.found ++ flat_map (tops_at l.levels (g.G.Grove.forest l.g) l.p.tree (g.G.Tree.TreeView.tree l.view).trees) (take l.child-index l.children)
