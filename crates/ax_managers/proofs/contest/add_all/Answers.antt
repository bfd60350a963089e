use Rattle.std.proofs.Common.{◌≡◌, ◌∙◌, ◌||◌, cond, true, eqb, ap, arith}
use Rattle.std.proofs.lemmas.List.{take_all}
use Rattle.ax_trees.specs.Lists.{contains}
use Rattle.ax_managers.proofs.Lists.{contains_with}
use Rattle.ax_managers.proofs.contest.add_all.Goals as goal
use Rattle.ax_trees.proofs.Lists.{contains_next}

pub loop-id-preserved : goal.loop-id-preserved
loop-id-preserved c z =
    let here : contains c.push.new.self z ≡ cond (eqb c.id-item.result z) true (contains c.loop-id.nodes z) = ap (λ xs. contains xs z) c.in_ok-push.ensures.ok ∙ contains_with c.loop-id.nodes c.id-item.result z in
    let more = contains_next c.args.ids.now c.loop-id.id-index c.id-item.result z (record { low = c.loop-id-test.true; item = c.id-item.is }) in
    grind (arith, here, more, c.loop-id.invariant z)

pub returns : goal.returns
returns c z = c.loop-id.invariant z ∙ ap (λ xs. contains c.args.nodes.now z || contains xs z) (take_all c.loop-id.id-index c.args.ids.now c.loop-id-test.false)
