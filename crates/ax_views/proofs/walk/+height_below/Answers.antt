use Rattle.std.proofs.Common.{◌<◌, length, get_or, refl, sym, ap, ◌∙◌, arith}
use Rattle.std.proofs.lemmas.List.{take_all}
use Rattle.ax_trees.specs.Trees.{height}
use Rattle.ax_trees.specs.Nodes.{below, children}
use Rattle.ax_trees.proofs.Trees.{below_absent}
use Rattle.ax_views.proofs.Climbing.{height_below_count}
use Rattle.ax_views.proofs.Walking.{heights, height_is, heights_next, heights_at, children_from, absent_from}
use Rattle.ax_views.proofs.walk.+height_below.Goals.{then-with_child-high, else-with_child-high}
use Rattle.ax_views.proofs.walk.+height_below.Goals as goal

pub returns-in-None : goal.returns-in-None
returns-in-None g t c = sym (ap height (below_absent (g.T.TreeView.tree c.args.t.now).trees c.args.id (absent_from _ c.args.id c.in-None.ensures)))

pub loop-child-init : goal.loop-child-init
loop-child-init g t c = record { items = c.as_slice-child-items.ensures ∙ children_from _ c.args.id _ c.in-Some.ensures; high = refl }

pub height_below-with_child-requires : goal.height_below-with_child-requires
height_below-with_child-requires g t c =
    let f = (g.T.TreeView.tree c.args.t.now).trees in
    let e = c.child-item.is ∙ ap (λ zs. get_or zs c.loop-child.child-index c.child-item.result) c.loop-child.invariant.items in
    let within : c.loop-child.child-index < length (children f c.args.id) = let n = ap (λ zs. length zs) c.loop-child.invariant.items in omega (arith, n, c.loop-child-test.true) in
    let less = heights_at f (children f c.args.id) c.loop-child.child-index c.child-item.result within e in
    let whole = height_is f c.args.id c.root.ensures.well_formed.distinct in
    let falls : height (below f c.child-item.result) < t = omega (arith, less, whole, c.decreases) in
    λ κs lo. (falls, lo)

pub overflow_add-with_child : goal.overflow_add-with_child
overflow_add-with_child g t c =
    let f = (g.T.TreeView.tree c.args.t.now).trees in
    let e = c.child-item.is ∙ ap (λ zs. get_or zs c.loop-child.child-index c.child-item.result) c.loop-child.invariant.items in
    let within : c.loop-child.child-index < length (children f c.args.id) = let n = ap (λ zs. length zs) c.loop-child.invariant.items in omega (arith, n, c.loop-child-test.true) in
    let less = heights_at f (children f c.args.id) c.loop-child.child-index c.child-item.result within e in
    let whole = height_is f c.args.id c.root.ensures.well_formed.distinct in
    omega (arith, less, whole, height_below_count f c.args.id, c.height_below-with_child.ensures, c.count.ensures, c.count.type_inv)

pub loop-child-preserved : goal.loop-child-preserved
loop-child-preserved g t c =
    let next = heights_next (g.T.TreeView.tree c.args.t.now).trees c.as_slice-child-items.result.now c.loop-child.child-index c.child-item.result c.loop-child-test.true c.child-item.is in
    record {
      items = c.loop-child.invariant.items;
      high = elim c.if-with_child-high.branch [
        | then-with_child-high w ↦ let a = w.high-is in let b = w.if-with_child-high.true in omega (arith, a, b, next, c.height_below-with_child.ensures, c.loop-child.invariant.high)
        | else-with_child-high w ↦ let a = w.high-is in let b = w.if-with_child-high.false in omega (arith, a, b, next, c.height_below-with_child.ensures, c.loop-child.invariant.high)
      ];
    }

pub returns : goal.returns
returns g t c =
    let f = (g.T.TreeView.tree c.args.t.now).trees in
    c.loop-child.invariant.high
    ∙ ap (heights f) (take_all c.loop-child.child-index c.as_slice-child-items.result.now c.loop-child-test.false ∙ c.loop-child.invariant.items)
    ∙ sym (height_is f c.args.id c.root.ensures.well_formed.distinct)
