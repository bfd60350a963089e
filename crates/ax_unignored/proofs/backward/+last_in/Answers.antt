use Rattle.std.proofs.Common.{◌-◌, flat_map, if◌then◌else◌, None, Some, sym, ap, ◌∙◌, arith}
use Rattle.ax_stitch.proofs.Views.{view_told, view_some, node_told, children_told, or_else_some, or_else_none}
use Rattle.ax_stitch.proofs.Listed.{child_there}
use Rattle.ax_stitch.proofs.Hung.{hung_live, hung_there}
use Rattle.ax_unignored.specs.Shows.{shows}
use Rattle.ax_unignored.specs.Runs.{find_last, run_at}
use Rattle.ax_unignored.proofs.Lit.{shows_told}
use Rattle.ax_unignored.proofs.Found.{last_on, last_late, last_all}
use Rattle.ax_unignored.proofs.Runs.{hung_falls, child_falls}
use Rattle.ax_unignored.proofs.Lasts.{last_lone, last_own}
use Rattle.ax_unignored.proofs.backward.+last_in.Goals as goal

pub unwrap-node-requires : goal.unwrap-node-requires
unwrap-node-requires g t c =
    let f = g.G.Grove.forest c.args.g.now in
    let m = g.G.Tree.TreeView.tree c.args.view.now in
    let p = c.args.p.now in
    node_told m p.node c.node.result c.requires.there c.node.ensures

pub unwrap-hung-requires : goal.unwrap-hung-requires
unwrap-hung-requires g t c =
    let f = g.G.Grove.forest c.args.g.now in
    let m = g.G.Tree.TreeView.tree c.args.view.now in
    let p = c.args.p.now in
    view_some g.G.Tree.TreeView.tree c.tree-in-Some.result _ c.tree-in-Some.ensures.tree (hung_live c.args.levels f p c.in-Some.root c.in-Some.ensures)

pub last_in-found-requires : goal.last_in-found-requires
last_in-found-requires g t c κs within =
    let f = g.G.Grove.forest c.args.g.now in
    let m = g.G.Tree.TreeView.tree c.args.view.now in
    let p = c.args.p.now in
    let h = g.G.Tree.TreeView.tree c.unwrap-hung.result.now in
    let l = view_told g.G.Tree.TreeView.tree c.tree-in-Some.result c.unwrap-hung.result _ c.tree-in-Some.ensures.tree c.unwrap-hung.ensures in
    (hung_falls c.args.levels t f p c.in-Some.root m.trees h c.tree.ensures.sound c.in-Some.ensures l (omega (arith, c.decreases)), (within.0, (within.1, (l, hung_there c.args.levels f p c.in-Some.root h c.in-Some.ensures l))))

pub returns-then-is_some : goal.returns-then-is_some
returns-then-is_some g t c =
    let f = g.G.Grove.forest c.args.g.now in
    let m = g.G.Tree.TreeView.tree c.args.view.now in
    let p = c.args.p.now in
    let h = g.G.Tree.TreeView.tree c.unwrap-hung.result.now in
    let l = view_told g.G.Tree.TreeView.tree c.tree-in-Some.result c.unwrap-hung.result _ c.tree-in-Some.ensures.tree c.unwrap-hung.ensures in
    let step = last_lone c.args.levels f p c.in-Some.root m h c.last_in-found.result c.tree.ensures.sound c.requires.live c.requires.there c.in-Some.ensures l c.last_in-found.ensures in
    sym (or_else_some c.last_in-found.result _ (sym c.is_some.ensures ∙ c.if-is_some.true)) ∙ step

pub returns-in-Some : goal.returns-in-Some
returns-in-Some g t c =
    let f = g.G.Grove.forest c.args.g.now in
    let m = g.G.Tree.TreeView.tree c.args.view.now in
    let p = c.args.p.now in
    let told = shows_told f p m c.node.result c.unwrap-node.result c.requires.live c.node.ensures c.unwrap-node.ensures in
    let h = g.G.Tree.TreeView.tree c.unwrap-hung.result.now in
    let l = view_told g.G.Tree.TreeView.tree c.tree-in-Some.result c.unwrap-hung.result _ c.tree-in-Some.ensures.tree c.unwrap-hung.ensures in
    let step = last_lone c.args.levels f p c.in-Some.root m h c.last_in-found.result c.tree.ensures.sound c.requires.live c.requires.there c.in-Some.ensures l c.last_in-found.ensures in
    c.own.ensures ∙ (ap (λ b. if b then Some p else None) (sym told) ∙ (sym (or_else_none c.last_in-found.result _ (sym c.is_some.ensures ∙ c.if-is_some.false)) ∙ step))

pub last_in-found-requires-in-loop-left : goal.last_in-found-requires-in-loop-left
last_in-found-requires-in-loop-left g t c κs within =
    let f = g.G.Grove.forest c.args.g.now in
    let m = g.G.Tree.TreeView.tree c.args.view.now in
    let p = c.args.p.now in
    let kids = children_told m p.node c.node.result c.unwrap-node.result c.as_slice-children.result.now c.node.ensures c.unwrap-node.ensures c.as_slice-children.ensures in
    let i = c.loop-left.invariant.within in
    let b = c.loop-left-test.true in
    (child_falls c.args.levels t f p m c.index-children-left.result (c.loop-left.left - 1) c.node.result c.unwrap-node.result c.as_slice-children.result.now c.tree.ensures.sound c.requires.live c.node.ensures c.unwrap-node.ensures c.as_slice-children.ensures (omega (arith, i, b)) c.index-children-left.is (omega (arith, c.decreases)), (within.0, (within.1, (c.requires.live, child_there m.trees p.node c.index-children-left.result (c.loop-left.left - 1) c.as_slice-children.result.now kids (omega (arith, i, b)) c.index-children-left.is))))

pub returns-then-is_some-2 : goal.returns-then-is_some-2
returns-then-is_some-2 g t c =
    let f = g.G.Grove.forest c.args.g.now in
    let m = g.G.Tree.TreeView.tree c.args.view.now in
    let p = c.args.p.now in
    let kids = children_told m p.node c.node.result c.unwrap-node.result c.as_slice-children.result.now c.node.ensures c.unwrap-node.ensures c.as_slice-children.ensures in
    let i = c.loop-left.invariant.within in
    let b = c.loop-left-test.true in
    let late = last_late (shows f) (run_at c.args.levels f p.tree m.trees) c.as_slice-children.result.now c.loop-left.left (c.loop-left.left - 1) c.index-children-left.result c.last_in-found-in-loop-left.result (omega (arith, b)) i c.index-children-left.is c.loop-left.invariant.none c.last_in-found-in-loop-left.ensures (sym c.is_some-in-loop-left.ensures ∙ c.if-is_some-2.true) in
    sym (or_else_some c.last_in-found-in-loop-left.result _ (sym c.is_some-in-loop-left.ensures ∙ c.if-is_some-2.true))
    ∙ last_own c.args.levels f p m c.last_in-found-in-loop-left.result c.tree.ensures.sound c.requires.live c.requires.there c.in_default.ensures (late ∙ ap (λ xs. find_last (shows f) (flat_map (run_at c.args.levels f p.tree m.trees) xs)) kids)

pub loop-left-preserved : goal.loop-left-preserved
loop-left-preserved g t c =
    let f = g.G.Grove.forest c.args.g.now in
    let m = g.G.Tree.TreeView.tree c.args.view.now in
    let p = c.args.p.now in
    let i = c.loop-left.invariant.within in
    let b = c.loop-left-test.true in
    record { within = omega (arith, i, b); none = last_on (shows f) (run_at c.args.levels f p.tree m.trees) c.as_slice-children.result.now c.loop-left.left (c.loop-left.left - 1) c.index-children-left.result c.last_in-found-in-loop-left.result (omega (arith, b)) i c.index-children-left.is c.loop-left.invariant.none c.last_in-found-in-loop-left.ensures (sym c.is_some-in-loop-left.ensures ∙ c.if-is_some-2.false) }

pub returns : goal.returns
returns g t c =
    let f = g.G.Grove.forest c.args.g.now in
    let m = g.G.Tree.TreeView.tree c.args.view.now in
    let p = c.args.p.now in
    let told = shows_told f p m c.node.result c.unwrap-node.result c.requires.live c.node.ensures c.unwrap-node.ensures in
    let kids = children_told m p.node c.node.result c.unwrap-node.result c.as_slice-children.result.now c.node.ensures c.unwrap-node.ensures c.as_slice-children.ensures in
    let b = c.loop-left-test.false in
    c.own-2.ensures ∙ (ap (λ b. if b then Some p else None) (sym told)
    ∙ last_own c.args.levels f p m None c.tree.ensures.sound c.requires.live c.requires.there c.in_default.ensures (last_all (shows f) (run_at c.args.levels f p.tree m.trees) c.as_slice-children.result.now c.loop-left.left (omega (arith, b)) c.loop-left.invariant.none ∙ ap (λ xs. find_last (shows f) (flat_map (run_at c.args.levels f p.tree m.trees) xs)) kids))
