use Rattle.std.proofs.Common.{◌≡◌, true, false, ◌||◌, eqb, sym, ap, ◌∙◌, refl, arith}
use Rattle.ax_trees.specs.Trees.{has}
use Rattle.ax_trees.specs.Nodes.{below}
use Rattle.ax_views.proofs.Climbing.{is_above, none_over_top}
use Rattle.ax_lca.proofs.closing.stands_below.Goals as goal

pub loop-above-init : goal.loop-above-init
loop-above-init c = refl

pub loop-above-smaller : goal.loop-above-smaller
loop-above-smaller c =
    let a = is_above c.args.c.now.tree c.loop-above.at c.in-Some.above c.root.ensures.is_tree.distinct (sym c.in-Some.ensures) in
    omega (arith, a.deep)

pub returns-then-eq : goal.returns-then-eq
returns-then-eq c =
    let a = is_above c.args.c.now.tree c.loop-above.at c.in-Some.above c.root.ensures.is_tree.distinct (sym c.in-Some.ensures) in
    let here : eqb c.in-Some.above c.args.over ≡ true = sym c.eq.ensures ∙ c.if-eq.true in
    sym (sym c.loop-above.invariant ∙ (a.under c.args.over ∙ ap (λ b. b || has (below c.args.c.now.tree c.args.over) c.in-Some.above) here))

pub loop-above-preserved : goal.loop-above-preserved
loop-above-preserved c =
    let a = is_above c.args.c.now.tree c.loop-above.at c.in-Some.above c.root.ensures.is_tree.distinct (sym c.in-Some.ensures) in
    let other : eqb c.in-Some.above c.args.over ≡ false = sym c.eq.ensures ∙ c.if-eq.false in
    sym (a.under c.args.over ∙ ap (λ b. b || has (below c.args.c.now.tree c.args.over) c.in-Some.above) other) ∙ c.loop-above.invariant

pub returns : goal.returns
returns c =
    sym (sym c.loop-above.invariant ∙ none_over_top c.args.c.now.tree c.args.over c.loop-above.at c.root.ensures.is_tree.distinct (sym c.in_default.ensures))
