use Rattle.std.proofs.Common.{sym, ◌∙◌, arith}
use Rattle.ax_trees.proofs.Chains.{chain_absent}
use Rattle.ax_views.proofs.Climbing.{is_above, climb_begins, climb_next, climb_ends}
use Rattle.ax_views.proofs.Walking.{there_from, absent_from}
use Rattle.ax_views.proofs.climb.chain.Goals as goal

pub returns-in-None : goal.returns-in-None
returns-in-None g c = c.new-chain.ensures ∙ sym (chain_absent (g.T.TreeView.tree c.args.t.now).trees c.args.id (absent_from _ c.args.id c.in-None.ensures))

pub loop-above-init : goal.loop-above-init
loop-above-init g c = climb_begins _ c.args.id _ _ (there_from _ c.args.id _ c.in-Some.ensures) c.new-climbed.ensures c.in_ok-push.ensures.ok

pub loop-above-smaller : goal.loop-above-smaller
loop-above-smaller g c =
    let a = is_above (g.T.TreeView.tree c.args.t.now).trees c.loop-above.at c.in-Some-parent.above c.root.ensures.well_formed.distinct (sym c.in-Some-parent.ensures) in
    omega (arith, a.deep)

pub loop-above-preserved : goal.loop-above-preserved
loop-above-preserved g c =
    let a = is_above (g.T.TreeView.tree c.args.t.now).trees c.loop-above.at c.in-Some-parent.above c.root.ensures.well_formed.distinct (sym c.in-Some-parent.ensures) in
    climb_next _ _ _ _ _ _ c.loop-above.invariant a c.in_ok-push-2.ensures.ok

pub returns : goal.returns
returns g c = climb_ends _ _ _ _ _ _ c.root.ensures.well_formed.distinct c.loop-above.invariant (sym c.in_default.ensures) c.new-chain.ensures c.in_ok-push_reversed.ensures.ok
