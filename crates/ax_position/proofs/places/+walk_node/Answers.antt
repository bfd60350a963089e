use Rattle.std.proofs.Common.{sym, ◌∙◌, arith}
use Rattle.ax_stitch.proofs.Views.{node_told, children_told, view_told}
use Rattle.ax_position.specs.Walks.{node_rows}
use Rattle.ax_position.proofs.Descents.{node_is, child_there, child_falls, walked, walked_more, walked_lone, walked_hung, settled_early}
use Rattle.ax_position.proofs.places.+walk_node.Goals as goal

pub unwrap-node-requires : goal.unwrap-node-requires
unwrap-node-requires g t c = node_told (g.G.Tree.TreeView.tree c.args.view.now) c.args.at.now.node c.node.result c.requires.there c.node.ensures

pub walk_node-requires : goal.walk_node-requires
walk_node-requires g t c κs within =
    let m = g.G.Tree.TreeView.tree c.args.view.now in
    let z = c.args.at.now.node in
    let xs = c.as_slice-children.result.now in
    let distinct = (c.requires.sound.live c.args.at.now.tree m (sym c.requires.live)).well_formed.distinct in
    let kids = children_told m z c.node.result c.unwrap-node.result xs c.node.ensures c.unwrap-node.ensures c.as_slice-children.ensures in (
      child_falls m z c.child-item.result c.loop-child.child-index c.args.levels t xs distinct kids c.loop-child-test.true c.child-item.is (omega (arith, c.decreases)),
      (within.0, (within.1.0, (within.1.1, (c.requires.sound, (c.requires.live, child_there m z c.child-item.result c.loop-child.child-index xs kids c.loop-child-test.true c.child-item.is))))),
    )

pub loop-child-preserved : goal.loop-child-preserved
loop-child-preserved g t c = record {
  seen =
      walked_more g.S.Visitor.seen (node_rows c.args.levels (g.G.Grove.forest c.args.g.now) c.args.targets.now c.within_of-within.result c.args.at.now.tree (g.G.Tree.TreeView.tree c.args.view.now).trees)
      _ c.loop-child.state _ c.as_slice-children.result.now c.loop-child.child-index c.child-item.result c.loop-child-test.true c.child-item.is c.loop-child.invariant.seen c.in_ok-walk_node.ensures.seen;
  fails = c.in_ok-walk_node.ensures.fails ∙ c.loop-child.invariant.fails;
}

pub returns-then-is_settled-clause-seen : goal.returns-then-is_settled-clause-seen
returns-then-is_settled-clause-seen g t c =
    let m = g.G.Tree.TreeView.tree c.args.view.now in
    let told = node_is m c.args.at.now.node c.node.result c.unwrap-node.result c.node.ensures c.unwrap-node.ensures in
    let distinct = (c.requires.sound.live c.args.at.now.tree m (sym c.requires.live)).well_formed.distinct in
    settled_early g.S.Visitor.seen c.args.levels (g.G.Grove.forest c.args.g.now) c.args.targets.now c.args.above c.args.at.now.tree m c.args.at.now.node c.unwrap-node.result.now c.as_slice-children.result.now
    c.loop-child.child-index c.hung_root-hung.result c.is_leaf-leaf.result c.within_of-within.result c.args.state.now _ c.loop-child.state distinct c.requires.there told c.as_slice-children.ensures c.hung_root-hung.ensures
    c.is_leaf-leaf.ensures c.within_of-within.ensures c.in_ok-visit.ensures.seen c.loop-child.invariant.seen (c.is_settled.ensures c.if-is_settled.true)

pub returns-then-is_settled-2-clause-seen : goal.returns-then-is_settled-2-clause-seen
returns-then-is_settled-2-clause-seen g t c =
    let m = g.G.Tree.TreeView.tree c.args.view.now in
    let told = node_is m c.args.at.now.node c.node.result c.unwrap-node.result c.node.ensures c.unwrap-node.ensures in
    let distinct = (c.requires.sound.live c.args.at.now.tree m (sym c.requires.live)).well_formed.distinct in
    settled_early g.S.Visitor.seen c.args.levels (g.G.Grove.forest c.args.g.now) c.args.targets.now c.args.above c.args.at.now.tree m c.args.at.now.node c.unwrap-node.result.now c.as_slice-children.result.now
    c.loop-child.child-index c.hung_root-hung.result c.is_leaf-leaf.result c.within_of-within.result c.args.state.now _ c.loop-child.state distinct c.requires.there told c.as_slice-children.ensures c.hung_root-hung.ensures
    c.is_leaf-leaf.ensures c.within_of-within.ensures c.in_ok-visit.ensures.seen c.loop-child.invariant.seen (c.is_settled-2.ensures c.if-is_settled-2.true)

pub returns-in_ok-walk_node-2-clause-seen : goal.returns-in_ok-walk_node-2-clause-seen
returns-in_ok-walk_node-2-clause-seen g t c =
    let f = g.G.Grove.forest c.args.g.now in
    let m = g.G.Tree.TreeView.tree c.args.view.now in
    let b = g.G.Tree.TreeView.tree c.unwrap-below.result.now in
    let told = node_is m c.args.at.now.node c.node.result c.unwrap-node.result c.node.ensures c.unwrap-node.ensures in
    let distinct = (c.requires.sound.live c.args.at.now.tree m (sym c.requires.live)).well_formed.distinct in
    walked_hung g.S.Visitor.seen c.args.levels f c.args.targets.now c.args.above c.within_of-within.result c.args.at.now.tree m c.args.at.now.node _ c.in-Some.root b c.args.state.now _ _
    (walked g.S.Visitor.seen c.args.levels f c.args.targets.now c.args.above c.args.at.now.tree m c.args.at.now.node c.unwrap-node.result.now c.as_slice-children.result.now c.loop-child.child-index c.hung_root-hung.result
    c.is_leaf-leaf.result c.within_of-within.result c.args.state.now _ _ distinct c.requires.there told c.as_slice-children.ensures c.hung_root-hung.ensures c.is_leaf-leaf.ensures c.within_of-within.ensures
    c.in_ok-visit.ensures.seen c.loop-child-test.false c.loop-child.invariant.seen)
    c.within_of-within.ensures c.requires.sound (sym c.in-Some.is ∙ c.hung_root-hung.ensures) (view_told g.G.Tree.TreeView.tree c.tree.result c.unwrap-below.result _ c.tree.ensures.tree c.unwrap-below.ensures) (omega arith)
    c.in_ok-walk_node-2.ensures.seen

pub returns-in_default-clause-seen : goal.returns-in_default-clause-seen
returns-in_default-clause-seen g t c =
    let f = g.G.Grove.forest c.args.g.now in
    let m = g.G.Tree.TreeView.tree c.args.view.now in
    let told = node_is m c.args.at.now.node c.node.result c.unwrap-node.result c.node.ensures c.unwrap-node.ensures in
    let distinct = (c.requires.sound.live c.args.at.now.tree m (sym c.requires.live)).well_formed.distinct in
    walked_lone g.S.Visitor.seen c.args.levels f c.args.targets.now c.args.above c.args.at.now.tree m c.args.at.now.node c.args.state.now _
    (walked g.S.Visitor.seen c.args.levels f c.args.targets.now c.args.above c.args.at.now.tree m c.args.at.now.node c.unwrap-node.result.now c.as_slice-children.result.now c.loop-child.child-index c.hung_root-hung.result
    c.is_leaf-leaf.result c.within_of-within.result c.args.state.now _ _ distinct c.requires.there told c.as_slice-children.ensures c.hung_root-hung.ensures c.is_leaf-leaf.ensures c.within_of-within.ensures
    c.in_ok-visit.ensures.seen c.loop-child-test.false c.loop-child.invariant.seen)
    (sym c.in_default.is ∙ c.hung_root-hung.ensures)
