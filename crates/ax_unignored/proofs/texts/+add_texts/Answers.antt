use Rattle.std.proofs.Common.{◌++◌, not, flat_map, refl, sym, ap, ◌∙◌, arith}
use Rattle.ax_trees.specs.Lists.{is_nil}
use Rattle.ax_stitch.proofs.Views.{view_told, view_some, node_told, children_told}
use Rattle.ax_stitch.proofs.Listed.{child_there}
use Rattle.ax_stitch.proofs.Hung.{hung_live, hung_there}
use Rattle.ax_unignored.specs.Tops.{tops_at, texts_at}
use Rattle.ax_unignored.proofs.Runs.{hung_falls, child_falls}
use Rattle.ax_unignored.proofs.Found.{flat_all, ok_map, ok_value}
use Rattle.ax_unignored.proofs.Joint.{joint_is, tops_lone, tops_own, texts_lone, texts_own, texts_done, shown_done, added_all}
use Rattle.ax_unignored.proofs.texts.+add_texts.Goals as goal

pub unwrap-node-requires : goal.unwrap-node-requires
unwrap-node-requires g t c =
    let f = g.G.Grove.forest c.args.g.now in
    let m = g.G.Tree.TreeView.tree c.args.view.now in
    let p = c.args.p.now in
    node_told m p.node c.node.result c.requires.there c.node.ensures

pub unwrap-hung-requires : goal.unwrap-hung-requires
unwrap-hung-requires g t c =
    let f = g.G.Grove.forest c.args.g.now in
    let m = g.G.Tree.TreeView.tree c.args.view.now in
    let p = c.args.p.now in
    view_some g.G.Tree.TreeView.tree c.tree-in-Some.result _ c.tree-in-Some.ensures.tree (hung_live c.args.levels f p c.in-Some.root c.in-Some.ensures)

pub add_texts-requires : goal.add_texts-requires
add_texts-requires g t c κs within =
    let f = g.G.Grove.forest c.args.g.now in
    let m = g.G.Tree.TreeView.tree c.args.view.now in
    let p = c.args.p.now in
    let h = g.G.Tree.TreeView.tree c.unwrap-hung.result.now in
    let l = view_told g.G.Tree.TreeView.tree c.tree-in-Some.result c.unwrap-hung.result _ c.tree-in-Some.ensures.tree c.unwrap-hung.ensures in
    (hung_falls c.args.levels t f p c.in-Some.root m.trees h c.tree.ensures.sound c.in-Some.ensures l (omega (arith, c.decreases)), (within.0, (within.1, (l, hung_there c.args.levels f p c.in-Some.root h c.in-Some.ensures l))))

pub add_texts-requires-in-loop-child : goal.add_texts-requires-in-loop-child
add_texts-requires-in-loop-child g t c κs within =
    let f = g.G.Grove.forest c.args.g.now in
    let m = g.G.Tree.TreeView.tree c.args.view.now in
    let p = c.args.p.now in
    let kids = children_told m p.node c.node.result c.unwrap-node.result c.as_slice-children.result.now c.node.ensures c.unwrap-node.ensures c.as_slice-children.ensures in
    (child_falls c.args.levels t f p m c.child-item.result c.loop-child.child-index c.node.result c.unwrap-node.result c.as_slice-children.result.now c.tree.ensures.sound c.requires.live c.node.ensures c.unwrap-node.ensures c.as_slice-children.ensures c.loop-child-test.true c.child-item.is (omega (arith, c.decreases)), (within.0, (within.1, (c.requires.live, child_there m.trees p.node c.child-item.result c.loop-child.child-index c.as_slice-children.result.now kids c.loop-child-test.true c.child-item.is))))

pub returns-in-Some-clause-text : goal.returns-in-Some-clause-text
returns-in-Some-clause-text g t c =
    let f = g.G.Grove.forest c.args.g.now in
    let m = g.G.Tree.TreeView.tree c.args.view.now in
    let p = c.args.p.now in
    let j = joint_is c.args.levels f p m c.node.result c.unwrap-node.result c.requires.live c.requires.there c.node.ensures c.unwrap-node.ensures in
    let h = g.G.Tree.TreeView.tree c.unwrap-hung.result.now in
    let l = view_told g.G.Tree.TreeView.tree c.tree-in-Some.result c.unwrap-hung.result _ c.tree-in-Some.ensures.tree c.unwrap-hung.ensures in
    let text = c.in_ok-below.ensures.text ∙ ap (λ l. c.args.out.now ++ l) (sym (texts_lone c.args.levels f p c.in-Some.root m h c.tree.ensures.sound c.requires.live c.in-Some.ensures l)) in
    let below = c.in_ok-below.ensures.shown ∙ ap (λ l. not (is_nil l)) (sym (tops_lone c.args.levels f p c.in-Some.root m h c.tree.ensures.sound c.requires.live c.in-Some.ensures l)) in
    ok_map c.add_own.result c.add_own.ensures.text (texts_done c.args.levels f p m _ c.args.out.now c.add_texts.new.out c.add_own.new.out c.in_ok-below.below j text below)

pub returns-in-Some-clause-shown : goal.returns-in-Some-clause-shown
returns-in-Some-clause-shown g t c =
    let f = g.G.Grove.forest c.args.g.now in
    let m = g.G.Tree.TreeView.tree c.args.view.now in
    let p = c.args.p.now in
    let j = joint_is c.args.levels f p m c.node.result c.unwrap-node.result c.requires.live c.requires.there c.node.ensures c.unwrap-node.ensures in
    let h = g.G.Tree.TreeView.tree c.unwrap-hung.result.now in
    let l = view_told g.G.Tree.TreeView.tree c.tree-in-Some.result c.unwrap-hung.result _ c.tree-in-Some.ensures.tree c.unwrap-hung.ensures in
    let below = c.in_ok-below.ensures.shown ∙ ap (λ l. not (is_nil l)) (sym (tops_lone c.args.levels f p c.in-Some.root m h c.tree.ensures.sound c.requires.live c.in-Some.ensures l)) in
    ok_value c.add_own.result _ _ c.add_own.ensures.shown (shown_done c.args.levels f p m _ c.in_ok-below.below _ j below refl)

pub returns-clause-text : goal.returns-clause-text
returns-clause-text g t c =
    let f = g.G.Grove.forest c.args.g.now in
    let m = g.G.Tree.TreeView.tree c.args.view.now in
    let p = c.args.p.now in
    let j = joint_is c.args.levels f p m c.node.result c.unwrap-node.result c.requires.live c.requires.there c.node.ensures c.unwrap-node.ensures in
    let kids = children_told m p.node c.node.result c.unwrap-node.result c.as_slice-children.result.now c.node.ensures c.unwrap-node.ensures c.as_slice-children.ensures in
    let text =
    added_all (texts_at c.args.levels f p.tree m.trees) c.args.out.now c.loop-child.out c.as_slice-children.result.now c.loop-child.child-index c.loop-child-test.false c.loop-child.invariant.text
    ∙ ap (λ l. c.args.out.now ++ l) (ap (flat_map (texts_at c.args.levels f p.tree m.trees)) kids ∙ sym (texts_own c.args.levels f p m c.tree.ensures.sound c.requires.live c.in_default.ensures)) in
    let below =
    c.loop-child.invariant.shown ∙ ap (λ l. not (is_nil l)) (flat_all (tops_at c.args.levels f p.tree m.trees) c.as_slice-children.result.now c.loop-child.child-index c.loop-child-test.false
    ∙ (ap (flat_map (tops_at c.args.levels f p.tree m.trees)) kids ∙ sym (tops_own c.args.levels f p m c.tree.ensures.sound c.requires.live c.in_default.ensures))) in
    ok_map c.add_own-2.result c.add_own-2.ensures.text (texts_done c.args.levels f p m _ c.args.out.now c.loop-child.out c.add_own-2.new.out c.loop-child.below j text below)

pub returns-clause-shown : goal.returns-clause-shown
returns-clause-shown g t c =
    let f = g.G.Grove.forest c.args.g.now in
    let m = g.G.Tree.TreeView.tree c.args.view.now in
    let p = c.args.p.now in
    let j = joint_is c.args.levels f p m c.node.result c.unwrap-node.result c.requires.live c.requires.there c.node.ensures c.unwrap-node.ensures in
    let kids = children_told m p.node c.node.result c.unwrap-node.result c.as_slice-children.result.now c.node.ensures c.unwrap-node.ensures c.as_slice-children.ensures in
    let below =
    c.loop-child.invariant.shown ∙ ap (λ l. not (is_nil l)) (flat_all (tops_at c.args.levels f p.tree m.trees) c.as_slice-children.result.now c.loop-child.child-index c.loop-child-test.false
    ∙ (ap (flat_map (tops_at c.args.levels f p.tree m.trees)) kids ∙ sym (tops_own c.args.levels f p m c.tree.ensures.sound c.requires.live c.in_default.ensures))) in
    ok_value c.add_own-2.result _ _ c.add_own-2.ensures.shown (shown_done c.args.levels f p m _ c.loop-child.below _ j below refl)
