use Rattle.std.proofs.Common.{◌≡◌, ◌*◌, ◌+◌, ◌++◌, not, flat_map, take}
use Rattle.ax_trees.specs.Trees.{height}
use Rattle.ax_trees.specs.Nodes.{below}
use Rattle.ax_trees.specs.Lists.{is_nil}
use Rattle.ax_unignored.specs.Tops.{tops_at, texts_at}
use Rattle.ax_unignored.proofs.texts.+add_texts.Given as goal

abbrev pub decreases-add_texts : goal.decreases-add_texts
decreases-add_texts g l = l.levels * 300 + height (below (g.G.Tree.TreeView.tree l.view.now).trees l.p.now.node)

abbrev pub invariant-loop-child : goal.invariant-loop-child
invariant-loop-child g l = record {
  text : l.out ≡ l.initial.out ++ flat_map (texts_at l.levels (g.G.Grove.forest l.g) l.p.tree (g.G.Tree.TreeView.tree l.view).trees) (take l.child-index l.children);
  shown : l.below ≡ not (is_nil (flat_map (tops_at l.levels (g.G.Grove.forest l.g) l.p.tree (g.G.Tree.TreeView.tree l.view).trees) (take l.child-index l.children)));
}
