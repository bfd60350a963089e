use Rattle.std.proofs.Common.{◌≡◌, ◌+◌, ◌*◌, take, flat_map}
use Rattle.ax_trees.specs.Trees.{height}
use Rattle.ax_trees.specs.Nodes.{below}
use Rattle.ax_position.specs.Walks.{folded, node_rows}
use Rattle.ax_position.proofs.places.+walk_node.Given as goal

abbrev pub decreases-walk_node : goal.decreases-walk_node
decreases-walk_node g l = l.levels * 300 + height (below (g.G.Tree.TreeView.tree l.view.now).trees l.at.now.node)

abbrev pub invariant-loop-child : goal.invariant-loop-child
invariant-loop-child g l = record {
  seen : l.state ≡ folded g.S.Visitor.seen l.initial.state (flat_map (node_rows l.levels (g.G.Grove.forest l.g) l.targets l.within l.at.tree (g.G.Tree.TreeView.tree l.view).trees) (take l.child-index l.children));
  fails : g.S.Visitor.fails l.state ≡ g.S.Visitor.fails l.initial.state;
}
