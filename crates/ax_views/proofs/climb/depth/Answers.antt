use Rattle.std.proofs.Common.{sym, arith}
use Rattle.ax_trees.proofs.Sizes.{depth_height, depth_none, depth_there}
use Rattle.ax_views.proofs.Climbing.{is_above, depth_top, height_count}
use Rattle.ax_views.proofs.Walking.{there_from, absent_from}
use Rattle.ax_views.proofs.climb.depth.Goals as goal

pub returns-in-None : goal.returns-in-None
returns-in-None g c = sym (depth_none (g.T.TreeView.tree c.args.t.now).trees c.args.id (absent_from _ c.args.id c.in-None.ensures))

pub loop-above-init : goal.loop-above-init
loop-above-init g c = record { there = there_from _ c.args.id _ c.in-Some.ensures; left = omega arith }

pub overflow_add-depth : goal.overflow_add-depth
overflow_add-depth g c =
    let a = is_above (g.T.TreeView.tree c.args.t.now).trees c.loop-above.at c.in-Some-parent.above c.root.ensures.well_formed.distinct (sym c.in-Some-parent.ensures) in
    omega (arith, a.deep, c.loop-above.invariant.left, c.count.ensures, c.count.type_inv, depth_height (g.T.TreeView.tree c.args.t.now).trees c.args.id, depth_there (g.T.TreeView.tree c.args.t.now).trees c.in-Some-parent.above a.up, height_count (g.T.TreeView.tree c.args.t.now).trees)

pub loop-above-smaller : goal.loop-above-smaller
loop-above-smaller g c =
    let a = is_above (g.T.TreeView.tree c.args.t.now).trees c.loop-above.at c.in-Some-parent.above c.root.ensures.well_formed.distinct (sym c.in-Some-parent.ensures) in
    omega (arith, a.deep)

pub loop-above-preserved : goal.loop-above-preserved
loop-above-preserved g c =
    let a = is_above (g.T.TreeView.tree c.args.t.now).trees c.loop-above.at c.in-Some-parent.above c.root.ensures.well_formed.distinct (sym c.in-Some-parent.ensures) in
    record { there = a.up; left = omega (arith, a.deep, c.loop-above.invariant.left) }

pub returns : goal.returns
returns g c =
    let one = depth_top (g.T.TreeView.tree c.args.t.now).trees c.loop-above.at c.root.ensures.well_formed.distinct c.loop-above.invariant.there (sym c.in_default.ensures) in
    omega (arith, one, c.loop-above.invariant.left)
