use Rattle.std.proofs.Common.{◌-◌, ◌++◌, ◌∷◌, flat_map, sym, ap, ◌∙◌, arith}
use Rattle.ax_stitch.proofs.Views.{view_told, view_some, node_told, children_told}
use Rattle.ax_stitch.proofs.Listed.{child_there}
use Rattle.ax_stitch.proofs.Hung.{hung_live, hung_there}
use Rattle.ax_combine.specs.Runs.{run_at}
use Rattle.ax_combine.proofs.Runs.{run_is, below_lone, below_own, hung_falls, child_falls, added_more, added_all, ok_same}
use Rattle.ax_combine.proofs.Walks.{first_then}
use Rattle.ax_combine.proofs.walk.+add_places.Goals as goal

pub unwrap-node-requires : goal.unwrap-node-requires
unwrap-node-requires g t c =
    let m = g.G.Tree.TreeView.tree c.args.view.now in
    let p = c.args.p.now in
    node_told m p.node c.node.result c.requires.there c.node.ensures

pub unwrap-hung-requires : goal.unwrap-hung-requires
unwrap-hung-requires g t c =
    let f = g.G.Grove.forest c.args.g.now in
    let p = c.args.p.now in
    view_some g.G.Tree.TreeView.tree c.tree-in-Some.result _ c.tree-in-Some.ensures.tree (hung_live c.args.levels f p c.in-Some.root c.in-Some.ensures)

pub add_places-requires : goal.add_places-requires
add_places-requires g t c κs within =
    let f = g.G.Grove.forest c.args.g.now in
    let m = g.G.Tree.TreeView.tree c.args.view.now in
    let p = c.args.p.now in
    let h = g.G.Tree.TreeView.tree c.unwrap-hung.result.now in
    let l = view_told g.G.Tree.TreeView.tree c.tree-in-Some.result c.unwrap-hung.result _ c.tree-in-Some.ensures.tree c.unwrap-hung.ensures in
    (hung_falls c.args.levels t f p c.in-Some.root m.trees h c.tree.ensures.sound c.in-Some.ensures l (omega (arith, c.decreases)), (within.0, (within.1, (l, hung_there c.args.levels f p c.in-Some.root h c.in-Some.ensures l))))

pub returns-in-Some : goal.returns-in-Some
returns-in-Some g t c =
    let f = g.G.Grove.forest c.args.g.now in
    let m = g.G.Tree.TreeView.tree c.args.view.now in
    let p = c.args.p.now in
    let h = g.G.Tree.TreeView.tree c.unwrap-hung.result.now in
    let l = view_told g.G.Tree.TreeView.tree c.tree-in-Some.result c.unwrap-hung.result _ c.tree-in-Some.ensures.tree c.unwrap-hung.ensures in
    let run = run_is c.args.levels f p m c.requires.live c.requires.there in
    let lone = below_lone c.args.levels f p c.in-Some.root m h c.tree.ensures.sound c.requires.live c.in-Some.ensures l in
    ok_same c.add_places.result _ _ _ c.add_places.ensures
    (first_then c.args.found.now c.push.new.self p (run_at (c.args.levels - 1) f c.in-Some.root.tree h.trees c.in-Some.root.node) c.in_ok-push.ensures.ok
    ∙ ap (λ v. c.args.found.now ++ v) (ap (λ v. p ∷ v) (sym lone) ∙ sym run))

pub add_places-requires-in-loop-child : goal.add_places-requires-in-loop-child
add_places-requires-in-loop-child g t c κs within =
    let f = g.G.Grove.forest c.args.g.now in
    let m = g.G.Tree.TreeView.tree c.args.view.now in
    let p = c.args.p.now in
    let kids = children_told m p.node c.node.result c.unwrap-node.result c.as_slice-children.result.now c.node.ensures c.unwrap-node.ensures c.as_slice-children.ensures in
    (child_falls c.args.levels t f p m c.child-item.result c.loop-child.child-index c.node.result c.unwrap-node.result c.as_slice-children.result.now c.tree.ensures.sound c.requires.live c.node.ensures c.unwrap-node.ensures c.as_slice-children.ensures c.loop-child-test.true c.child-item.is (omega (arith, c.decreases)), (within.0, (within.1, (c.requires.live, child_there m.trees p.node c.child-item.result c.loop-child.child-index c.as_slice-children.result.now kids c.loop-child-test.true c.child-item.is))))

pub loop-child-preserved : goal.loop-child-preserved
loop-child-preserved g t c =
    let f = g.G.Grove.forest c.args.g.now in
    let m = g.G.Tree.TreeView.tree c.args.view.now in
    let p = c.args.p.now in
    added_more (run_at c.args.levels f p.tree m.trees) _ c.loop-child.found _ c.as_slice-children.result.now c.loop-child.child-index c.child-item.result c.loop-child-test.true c.child-item.is c.loop-child.invariant c.in_ok-add_places.ensures

pub returns : goal.returns
returns g t c =
    let f = g.G.Grove.forest c.args.g.now in
    let m = g.G.Tree.TreeView.tree c.args.view.now in
    let p = c.args.p.now in
    let kids = children_told m p.node c.node.result c.unwrap-node.result c.as_slice-children.result.now c.node.ensures c.unwrap-node.ensures c.as_slice-children.ensures in
    let run = run_is c.args.levels f p m c.requires.live c.requires.there in
    let own = below_own c.args.levels f p m c.tree.ensures.sound c.requires.live c.in_default.ensures in
    added_all (run_at c.args.levels f p.tree m.trees) _ c.loop-child.found c.as_slice-children.result.now c.loop-child.child-index c.loop-child-test.false c.loop-child.invariant
    ∙ (first_then c.args.found.now c.push.new.self p _ c.in_ok-push.ensures.ok
    ∙ ap (λ v. c.args.found.now ++ v) (ap (λ v. p ∷ v) (ap (flat_map (run_at c.args.levels f p.tree m.trees)) kids ∙ sym own) ∙ sym run))
