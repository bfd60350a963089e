use Rattle.std.proofs.Common.{◌++◌, flat_map, sym, ap, ◌∙◌, arith}
use Rattle.ax_stitch.proofs.Views.{view_told, view_some, node_told, children_told}
use Rattle.ax_stitch.proofs.Listed.{child_there}
use Rattle.ax_stitch.proofs.Hung.{hung_live, hung_there}
use Rattle.ax_unignored.specs.Tops.{tops_at}
use Rattle.ax_unignored.proofs.Runs.{hung_falls, child_falls}
use Rattle.ax_unignored.proofs.Found.{ok_same, ok_on}
use Rattle.ax_unignored.proofs.Joint.{joint_is, tops_lit, tops_dark, tops_lone, tops_own, added_more, added_all}
use Rattle.ax_unignored.proofs.inner.+add_tops.Goals as goal

pub unwrap-node-requires : goal.unwrap-node-requires
unwrap-node-requires g t c =
    let f = g.G.Grove.forest c.args.g.now in
    let m = g.G.Tree.TreeView.tree c.args.view.now in
    let p = c.args.p.now in
    node_told m p.node c.node.result c.requires.there c.node.ensures

pub unwrap-hung-requires : goal.unwrap-hung-requires
unwrap-hung-requires g t c =
    let f = g.G.Grove.forest c.args.g.now in
    let m = g.G.Tree.TreeView.tree c.args.view.now in
    let p = c.args.p.now in
    view_some g.G.Tree.TreeView.tree c.tree-in-Some.result _ c.tree-in-Some.ensures.tree (hung_live c.args.levels f p c.in-Some.root c.in-Some.ensures)

pub returns-then-is_lit : goal.returns-then-is_lit
returns-then-is_lit g t c =
    let f = g.G.Grove.forest c.args.g.now in
    let m = g.G.Tree.TreeView.tree c.args.view.now in
    let p = c.args.p.now in
    let j = joint_is c.args.levels f p m c.node.result c.unwrap-node.result c.requires.live c.requires.there c.node.ensures c.unwrap-node.ensures in
    ok_same c.push.result _ _ _ (ok_on c.push.result _ _ c.push.ensures.ok) (ap (λ l. c.args.found.now ++ l) (sym (tops_lit c.args.levels f p m _ j (sym c.is_lit.ensures ∙ c.if-is_lit.true))))

pub add_tops-requires : goal.add_tops-requires
add_tops-requires g t c κs within =
    let f = g.G.Grove.forest c.args.g.now in
    let m = g.G.Tree.TreeView.tree c.args.view.now in
    let p = c.args.p.now in
    let h = g.G.Tree.TreeView.tree c.unwrap-hung.result.now in
    let l = view_told g.G.Tree.TreeView.tree c.tree-in-Some.result c.unwrap-hung.result _ c.tree-in-Some.ensures.tree c.unwrap-hung.ensures in
    (hung_falls c.args.levels t f p c.in-Some.root m.trees h c.tree.ensures.sound c.in-Some.ensures l (omega (arith, c.decreases)), (within.0, (within.1, (l, hung_there c.args.levels f p c.in-Some.root h c.in-Some.ensures l))))

pub returns-in-Some : goal.returns-in-Some
returns-in-Some g t c =
    let f = g.G.Grove.forest c.args.g.now in
    let m = g.G.Tree.TreeView.tree c.args.view.now in
    let p = c.args.p.now in
    let j = joint_is c.args.levels f p m c.node.result c.unwrap-node.result c.requires.live c.requires.there c.node.ensures c.unwrap-node.ensures in
    let h = g.G.Tree.TreeView.tree c.unwrap-hung.result.now in
    let l = view_told g.G.Tree.TreeView.tree c.tree-in-Some.result c.unwrap-hung.result _ c.tree-in-Some.ensures.tree c.unwrap-hung.ensures in
    ok_same c.add_tops.result _ _ _ c.add_tops.ensures (ap (λ l. c.args.found.now ++ l) (sym (tops_dark c.args.levels f p m _ j (sym c.is_lit.ensures ∙ c.if-is_lit.false) ∙ tops_lone c.args.levels f p c.in-Some.root m h c.tree.ensures.sound c.requires.live c.in-Some.ensures l)))

pub add_tops-requires-in-loop-child : goal.add_tops-requires-in-loop-child
add_tops-requires-in-loop-child g t c κs within =
    let f = g.G.Grove.forest c.args.g.now in
    let m = g.G.Tree.TreeView.tree c.args.view.now in
    let p = c.args.p.now in
    let kids = children_told m p.node c.node.result c.unwrap-node.result c.as_slice-children.result.now c.node.ensures c.unwrap-node.ensures c.as_slice-children.ensures in
    (child_falls c.args.levels t f p m c.child-item.result c.loop-child.child-index c.node.result c.unwrap-node.result c.as_slice-children.result.now c.tree.ensures.sound c.requires.live c.node.ensures c.unwrap-node.ensures c.as_slice-children.ensures c.loop-child-test.true c.child-item.is (omega (arith, c.decreases)), (within.0, (within.1, (c.requires.live, child_there m.trees p.node c.child-item.result c.loop-child.child-index c.as_slice-children.result.now kids c.loop-child-test.true c.child-item.is))))

pub loop-child-preserved : goal.loop-child-preserved
loop-child-preserved g t c =
    let f = g.G.Grove.forest c.args.g.now in
    let m = g.G.Tree.TreeView.tree c.args.view.now in
    let p = c.args.p.now in
    added_more (tops_at c.args.levels f p.tree m.trees) _ c.loop-child.found _ c.as_slice-children.result.now c.loop-child.child-index c.child-item.result c.loop-child-test.true c.child-item.is c.loop-child.invariant c.in_ok-add_tops.ensures

pub returns : goal.returns
returns g t c =
    let f = g.G.Grove.forest c.args.g.now in
    let m = g.G.Tree.TreeView.tree c.args.view.now in
    let p = c.args.p.now in
    let j = joint_is c.args.levels f p m c.node.result c.unwrap-node.result c.requires.live c.requires.there c.node.ensures c.unwrap-node.ensures in
    let kids = children_told m p.node c.node.result c.unwrap-node.result c.as_slice-children.result.now c.node.ensures c.unwrap-node.ensures c.as_slice-children.ensures in
    added_all (tops_at c.args.levels f p.tree m.trees) c.args.found.now c.loop-child.found c.as_slice-children.result.now c.loop-child.child-index c.loop-child-test.false c.loop-child.invariant
    ∙ ap (λ l. c.args.found.now ++ l) (ap (flat_map (tops_at c.args.levels f p.tree m.trees)) kids ∙ sym (tops_dark c.args.levels f p m _ j (sym c.is_lit.ensures ∙ c.if-is_lit.false) ∙ tops_own c.args.levels f p m c.tree.ensures.sound c.requires.live c.in_default.ensures))
