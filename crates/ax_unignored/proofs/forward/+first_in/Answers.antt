use Rattle.std.proofs.Common.{find, flat_map, None, sym, ap, ◌∙◌, arith}
use Rattle.ax_stitch.proofs.Views.{view_told, view_some, node_told, children_told}
use Rattle.ax_stitch.proofs.Listed.{child_there}
use Rattle.ax_stitch.proofs.Hung.{hung_live, hung_there}
use Rattle.ax_unignored.specs.Shows.{shows}
use Rattle.ax_unignored.specs.Runs.{run_at}
use Rattle.ax_unignored.proofs.Lit.{shows_told}
use Rattle.ax_unignored.proofs.Found.{find_on, find_early, find_all}
use Rattle.ax_unignored.proofs.Runs.{hung_falls, child_falls}
use Rattle.ax_unignored.proofs.Firsts.{first_self, first_lone, first_own}
use Rattle.ax_unignored.proofs.forward.+first_in.Goals as goal

pub unwrap-node-requires : goal.unwrap-node-requires
unwrap-node-requires g t c =
    let f = g.G.Grove.forest c.args.g.now in
    let m = g.G.Tree.TreeView.tree c.args.view.now in
    let p = c.args.p.now in
    node_told m p.node c.node.result c.requires.there c.node.ensures

pub unwrap-hung-requires : goal.unwrap-hung-requires
unwrap-hung-requires g t c =
    let f = g.G.Grove.forest c.args.g.now in
    let m = g.G.Tree.TreeView.tree c.args.view.now in
    let p = c.args.p.now in
    view_some g.G.Tree.TreeView.tree c.tree-in-Some.result _ c.tree-in-Some.ensures.tree (hung_live c.args.levels f p c.in-Some.root c.in-Some.ensures)

pub returns-then-is_lit : goal.returns-then-is_lit
returns-then-is_lit g t c =
    let f = g.G.Grove.forest c.args.g.now in
    let m = g.G.Tree.TreeView.tree c.args.view.now in
    let p = c.args.p.now in
    let told = shows_told f p m c.node.result c.unwrap-node.result c.requires.live c.node.ensures c.unwrap-node.ensures ∙ sym c.is_lit.ensures in
    first_self c.args.levels f p m c.requires.live c.requires.there (told ∙ c.if-is_lit.true)

pub first_in-requires : goal.first_in-requires
first_in-requires g t c κs within =
    let f = g.G.Grove.forest c.args.g.now in
    let m = g.G.Tree.TreeView.tree c.args.view.now in
    let p = c.args.p.now in
    let h = g.G.Tree.TreeView.tree c.unwrap-hung.result.now in
    let l = view_told g.G.Tree.TreeView.tree c.tree-in-Some.result c.unwrap-hung.result _ c.tree-in-Some.ensures.tree c.unwrap-hung.ensures in
    (hung_falls c.args.levels t f p c.in-Some.root m.trees h c.tree.ensures.sound c.in-Some.ensures l (omega (arith, c.decreases)), (within.0, (within.1, (l, hung_there c.args.levels f p c.in-Some.root h c.in-Some.ensures l))))

pub returns-in-Some : goal.returns-in-Some
returns-in-Some g t c =
    let f = g.G.Grove.forest c.args.g.now in
    let m = g.G.Tree.TreeView.tree c.args.view.now in
    let p = c.args.p.now in
    let told = shows_told f p m c.node.result c.unwrap-node.result c.requires.live c.node.ensures c.unwrap-node.ensures ∙ sym c.is_lit.ensures in
    let h = g.G.Tree.TreeView.tree c.unwrap-hung.result.now in
    let l = view_told g.G.Tree.TreeView.tree c.tree-in-Some.result c.unwrap-hung.result _ c.tree-in-Some.ensures.tree c.unwrap-hung.ensures in
    first_lone c.args.levels f p c.in-Some.root m h c.first_in.result c.tree.ensures.sound c.requires.live c.requires.there (told ∙ c.if-is_lit.false) c.in-Some.ensures l c.first_in.ensures

pub first_in-found-requires : goal.first_in-found-requires
first_in-found-requires g t c κs within =
    let f = g.G.Grove.forest c.args.g.now in
    let m = g.G.Tree.TreeView.tree c.args.view.now in
    let p = c.args.p.now in
    let kids = children_told m p.node c.node.result c.unwrap-node.result c.as_slice-children.result.now c.node.ensures c.unwrap-node.ensures c.as_slice-children.ensures in
    (child_falls c.args.levels t f p m c.child-item.result c.loop-child.child-index c.node.result c.unwrap-node.result c.as_slice-children.result.now c.tree.ensures.sound c.requires.live c.node.ensures c.unwrap-node.ensures c.as_slice-children.ensures c.loop-child-test.true c.child-item.is (omega (arith, c.decreases)), (within.0, (within.1, (c.requires.live, child_there m.trees p.node c.child-item.result c.loop-child.child-index c.as_slice-children.result.now kids c.loop-child-test.true c.child-item.is))))

pub returns-then-is_some : goal.returns-then-is_some
returns-then-is_some g t c =
    let f = g.G.Grove.forest c.args.g.now in
    let m = g.G.Tree.TreeView.tree c.args.view.now in
    let p = c.args.p.now in
    let told = shows_told f p m c.node.result c.unwrap-node.result c.requires.live c.node.ensures c.unwrap-node.ensures ∙ sym c.is_lit.ensures in
    let kids = children_told m p.node c.node.result c.unwrap-node.result c.as_slice-children.result.now c.node.ensures c.unwrap-node.ensures c.as_slice-children.ensures in
    first_own c.args.levels f p m c.first_in-found.result c.tree.ensures.sound c.requires.live c.requires.there (told ∙ c.if-is_lit.false) c.in_default.ensures
    (find_early (shows f) (run_at c.args.levels f p.tree m.trees) c.as_slice-children.result.now c.loop-child.child-index c.child-item.result c.first_in-found.result c.loop-child-test.true c.child-item.is c.loop-child.invariant c.first_in-found.ensures (sym c.is_some.ensures ∙ c.if-is_some.true)
    ∙ ap (λ xs. find (shows f) (flat_map (run_at c.args.levels f p.tree m.trees) xs)) kids)

pub loop-child-preserved : goal.loop-child-preserved
loop-child-preserved g t c =
    let f = g.G.Grove.forest c.args.g.now in
    let m = g.G.Tree.TreeView.tree c.args.view.now in
    let p = c.args.p.now in
    find_on (shows f) (run_at c.args.levels f p.tree m.trees) c.as_slice-children.result.now c.loop-child.child-index c.child-item.result c.first_in-found.result c.loop-child-test.true c.child-item.is c.loop-child.invariant c.first_in-found.ensures (sym c.is_some.ensures ∙ c.if-is_some.false)

pub returns : goal.returns
returns g t c =
    let f = g.G.Grove.forest c.args.g.now in
    let m = g.G.Tree.TreeView.tree c.args.view.now in
    let p = c.args.p.now in
    let told = shows_told f p m c.node.result c.unwrap-node.result c.requires.live c.node.ensures c.unwrap-node.ensures ∙ sym c.is_lit.ensures in
    let kids = children_told m p.node c.node.result c.unwrap-node.result c.as_slice-children.result.now c.node.ensures c.unwrap-node.ensures c.as_slice-children.ensures in
    first_own c.args.levels f p m None c.tree.ensures.sound c.requires.live c.requires.there (told ∙ c.if-is_lit.false) c.in_default.ensures
    (find_all (shows f) (run_at c.args.levels f p.tree m.trees) c.as_slice-children.result.now c.loop-child.child-index c.loop-child-test.false c.loop-child.invariant ∙ ap (λ xs. find (shows f) (flat_map (run_at c.args.levels f p.tree m.trees) xs)) kids)
