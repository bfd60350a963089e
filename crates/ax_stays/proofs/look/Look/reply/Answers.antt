use Rattle.std.proofs.Common.{◌≡◌, IfOk, subst, ◌∙◌, ap}
use Rattle.ax_tree.specs.Forest.{Forest}
use Rattle.ax_rules.specs.Mirrors.{forest_of}
use Rattle.ax_run_rules.specs.Replies.{answer_of}
use Rattle.ax_stays.proofs.Shown.{shown_forest}
use Rattle.ax_stays.proofs.look.Look.reply.Goals as goal

pub returns-clause-reply : goal.returns-clause-reply
returns-clause-reply c =
    let l = c.self.inside in
    let same = c.self.invariant.shown ∙ (shown_forest l.past.value.trees l.past.value.history c.self.invariant.receipts.good ∙ ap (λ p. forest_of p.trees p.history) c.self.view_is) in
    subst (λ (f : Forest). IfOk c.answer.result (λ reply. reply ≡ answer_of f c.args.query.now)) same c.answer.ensures.reply
