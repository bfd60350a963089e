use Rattle.std.proofs.Common.{◌≡◌, true, sym, ◌∙◌, arith}
use Rattle.ax_trees.specs.Trees.{has}
use Rattle.ax_lca.specs.Closing.{is_one}
use Rattle.ax_views.proofs.Climbing.{is_above}
use Rattle.ax_views.proofs.Walking.{there_from}
use Rattle.ax_lca.proofs.Chains.{one_is, shared_begins, shared_ends, shared_next, none_is}
use Rattle.ax_lca.proofs.starting.same_chain.Goals as goal

pub loop-above-init : goal.loop-above-init
loop-above-init g c =
    let held : has c.args.c.now.tree c.args.id ≡ true = grind (arith, c.if-not-holds.ensures) in
    shared_begins c.args.c.now.tree _ c.args.id (there_from _ c.args.id _ c.in-Some.ensures) held

pub loop-above-smaller : goal.loop-above-smaller
loop-above-smaller g c =
    let a = is_above (g.T.TreeView.tree c.args.s.now).trees c.loop-above.at c.in-Some-parent.above c.root.ensures.well_formed.distinct (sym c.in-Some-parent.ensures) in
    omega (arith, a.deep)

pub loop-above-preserved : goal.loop-above-preserved
loop-above-preserved g c =
    let a = is_above (g.T.TreeView.tree c.args.s.now).trees c.loop-above.at c.in-Some-parent.above c.root.ensures.well_formed.distinct (sym c.in-Some-parent.ensures) in
    let one : is_one c.parent-in-Some-parent.result c.in-Some-parent.above ≡ true = grind (arith, c.if-not-is_one.ensures) in
    let b = is_above c.args.c.now.tree c.loop-above.at c.in-Some-parent.above c.root-2.ensures.is_tree.distinct (sym c.parent-in-Some-parent.ensures ∙ one_is _ _ one) in
    shared_next c.args.c.now.tree _ c.args.id c.loop-above.at _ c.loop-above.invariant a b

pub returns-clause-same : goal.returns-clause-same
returns-clause-same g c = λ t.
    shared_ends c.args.c.now.tree _ c.args.id c.loop-above.at c.root-2.ensures.is_tree.distinct c.root.ensures.well_formed.distinct c.loop-above.invariant (sym c.in_default.ensures) (sym c.parent-2.ensures ∙ none_is _ (grind (arith, c.is_none.ensures, t)))

pub returns-clause-there : goal.returns-clause-there
returns-clause-there g c = λ t. there_from _ c.args.id _ c.in-Some.ensures
