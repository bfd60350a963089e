use Rattle.std.proofs.Common.{refl, sym, ap, ◌∙◌, arith}
use Rattle.ax_views.proofs.Climbing.{is_above}
use Rattle.ax_stitch.specs.Orders.{past}
use Rattle.ax_stitch.proofs.Views.{node_told, children_told, or_else_some, or_else_none}
use Rattle.ax_unignored.proofs.Runs.{past_there}
use Rattle.ax_unignored.proofs.Firsts.{behind_step, behind_none}
use Rattle.ax_unignored.proofs.forward.first_behind_in_tree.Goals as goal

pub loop-above-init : goal.loop-above-init
loop-above-init g c =
    record { there = c.requires.there; rest = refl }

pub unwrap-node-requires : goal.unwrap-node-requires
unwrap-node-requires g c =
    let f = g.G.Grove.forest c.args.g.now in
    let m = g.G.Tree.TreeView.tree c.args.view.now in
    let up = is_above m.trees c.loop-above.at c.in-Some.above c.root.ensures.well_formed.distinct (sym c.in-Some.ensures) in
    node_told m c.in-Some.above c.node.result up.up c.node.ensures

pub first_among-found-requires : goal.first_among-found-requires
first_among-found-requires g c =
    let f = g.G.Grove.forest c.args.g.now in
    let m = g.G.Tree.TreeView.tree c.args.view.now in
    let up = is_above m.trees c.loop-above.at c.in-Some.above c.root.ensures.well_formed.distinct (sym c.in-Some.ensures) in
    record { live = c.requires.live; there = past_there m c.in-Some.above c.loop-above.at c.node.result c.unwrap-node.result c.as_slice.result.now c.past-later.result.now c.node.ensures c.unwrap-node.ensures c.as_slice.ensures c.past-later.ensures }

pub returns-then-is_some : goal.returns-then-is_some
returns-then-is_some g c =
    let f = g.G.Grove.forest c.args.g.now in
    let m = g.G.Tree.TreeView.tree c.args.view.now in
    let up = is_above m.trees c.loop-above.at c.in-Some.above c.root.ensures.well_formed.distinct (sym c.in-Some.ensures) in
    let kids = children_told m c.in-Some.above c.node.result c.unwrap-node.result c.as_slice.result.now c.node.ensures c.unwrap-node.ensures c.as_slice.ensures in
    let step =
    behind_step c.args.levels f c.args.p.now.tree m c.loop-above.at c.in-Some.above c.past-later.result.now c.first_among-found.result c.root.ensures.well_formed (sym c.in-Some.ensures)
    (c.past-later.ensures ∙ ap (λ xs. past xs c.loop-above.at) kids) c.first_among-found.ensures in
    sym (c.loop-above.invariant.rest ∙ (step ∙ or_else_some c.first_among-found.result _ (sym c.is_some.ensures ∙ c.if-is_some.true)))

pub loop-above-smaller : goal.loop-above-smaller
loop-above-smaller g c =
    let f = g.G.Grove.forest c.args.g.now in
    let m = g.G.Tree.TreeView.tree c.args.view.now in
    let up = is_above m.trees c.loop-above.at c.in-Some.above c.root.ensures.well_formed.distinct (sym c.in-Some.ensures) in
    let deep = up.deep in
    omega (arith, deep)

pub loop-above-preserved : goal.loop-above-preserved
loop-above-preserved g c =
    let f = g.G.Grove.forest c.args.g.now in
    let m = g.G.Tree.TreeView.tree c.args.view.now in
    let up = is_above m.trees c.loop-above.at c.in-Some.above c.root.ensures.well_formed.distinct (sym c.in-Some.ensures) in
    let kids = children_told m c.in-Some.above c.node.result c.unwrap-node.result c.as_slice.result.now c.node.ensures c.unwrap-node.ensures c.as_slice.ensures in
    let step =
    behind_step c.args.levels f c.args.p.now.tree m c.loop-above.at c.in-Some.above c.past-later.result.now c.first_among-found.result c.root.ensures.well_formed (sym c.in-Some.ensures)
    (c.past-later.ensures ∙ ap (λ xs. past xs c.loop-above.at) kids) c.first_among-found.ensures in
    record { there = up.up; rest = c.loop-above.invariant.rest ∙ (step ∙ or_else_none c.first_among-found.result _ (sym c.is_some.ensures ∙ c.if-is_some.false)) }

pub returns : goal.returns
returns g c =
    let f = g.G.Grove.forest c.args.g.now in
    let m = g.G.Tree.TreeView.tree c.args.view.now in
    behind_none c.args.levels f c.args.p.now.tree m c.loop-above.at c.root.ensures.well_formed (sym c.in_default.ensures) ∙ sym c.loop-above.invariant.rest
