use Rattle.std.proofs.Common.{◌≡◌, ◌∙◌, true, sym, ap, arith}
use Rattle.std.proofs.lemmas.Bool.Decides.{eqb_tells}
use Rattle.std.proofs.lemmas.Bool.{false≢true}
use Rattle.ax_trees.specs.Lists.{contains}
use Rattle.ax_managers.proofs.contest.add_renamed.Goals as goal
use Rattle.ax_trees.proofs.Lists.{contains_push}

pub returns-clause-grows : goal.returns-clause-grows
returns-clause-grows g c z h = ap (λ xs. contains xs z) c.in_ok-push.ensures.ok ∙ grind (arith, contains_push c.args.renamed.now c.args.id z, h)

pub returns-clause-same : goal.returns-clause-same
returns-clause-same g c h =
    let there : contains c.push.new.self c.args.id ≡ true = ap (λ xs. contains xs c.args.id) c.in_ok-push.ensures.ok ∙ grind (arith, contains_push c.args.renamed.now c.args.id c.args.id, eqb_tells c.args.id c.args.id) in
    absurd (false≢true (sym h ∙ there))
