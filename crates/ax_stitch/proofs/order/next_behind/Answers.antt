use Rattle.std.proofs.Common.{sym, ap, ◌∙◌, arith}
use Rattle.ax_rules.specs.Sequences.{first_of}
use Rattle.ax_views.proofs.Climbing.{is_above}
use Rattle.ax_stitch.specs.Orders.{behind}
use Rattle.ax_stitch.proofs.Orders.{parent_in, behind_top}
use Rattle.ax_stitch.proofs.Views.{node_told, children_told, goes_up, or_else_some, or_else_none}
use Rattle.ax_stitch.proofs.order.next_behind.Goals as goal

pub unwrap-node-requires : goal.unwrap-node-requires
unwrap-node-requires g c =
    node_told (g.V.TreeView.tree c.args.view.now) c.in-Some.above c.node.result (parent_in (g.V.TreeView.tree c.args.view.now).trees c.loop-above.at c.in-Some.above (sym c.in-Some.ensures)) c.node.ensures

pub returns-then-is_some : goal.returns-then-is_some
returns-then-is_some g c =
    let m = g.V.TreeView.tree c.args.view.now in
    let xs = children_told m c.in-Some.above c.node.result c.unwrap-node.result c.as_slice.result.now c.node.ensures c.unwrap-node.ensures c.as_slice.ensures in
    sym (c.loop-above.invariant
    ∙ (goes_up m c.loop-above.at c.in-Some.above c.as_slice.result.now c.next_among-next.result c.root.ensures.well_formed.distinct (sym c.in-Some.ensures) xs c.next_among-next.ensures
    ∙ or_else_some c.next_among-next.result (first_of (behind m.trees c.in-Some.above)) (sym c.is_some.ensures ∙ c.if-is_some.true)))

pub loop-above-smaller : goal.loop-above-smaller
loop-above-smaller g c =
    let a = is_above (g.V.TreeView.tree c.args.view.now).trees c.loop-above.at c.in-Some.above c.root.ensures.well_formed.distinct (sym c.in-Some.ensures) in
    omega (arith, a.deep)

pub loop-above-preserved : goal.loop-above-preserved
loop-above-preserved g c =
    let m = g.V.TreeView.tree c.args.view.now in
    let xs = children_told m c.in-Some.above c.node.result c.unwrap-node.result c.as_slice.result.now c.node.ensures c.unwrap-node.ensures c.as_slice.ensures in
    c.loop-above.invariant
    ∙ (goes_up m c.loop-above.at c.in-Some.above c.as_slice.result.now c.next_among-next.result c.root.ensures.well_formed.distinct (sym c.in-Some.ensures) xs c.next_among-next.ensures
    ∙ or_else_none c.next_among-next.result (first_of (behind m.trees c.in-Some.above)) (sym c.is_some.ensures ∙ c.if-is_some.false))

pub returns : goal.returns
returns g c =
    let t = c.root.ensures.well_formed in
    sym (c.loop-above.invariant ∙ ap first_of (behind_top (g.V.TreeView.tree c.args.view.now).trees c.loop-above.at t.distinct t.one_root (sym c.in_default.ensures)))
