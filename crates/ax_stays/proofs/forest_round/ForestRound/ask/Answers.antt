use Rattle.std.proofs.Common.{◌≡◌, ◌+◌, IfOk, ap, subst, sym, ◌∙◌}
use Rattle.ax_tree.specs.declared.packet.HEntry.TheVariants.{Asked}
use Rattle.ax_rules.specs.Histories.{token_of}
use Rattle.ax_forest.specs.Entries.{past_after, IsAnswer}
use Rattle.ax_forest.specs.Past.{Past}
use Rattle.ax_stays.specs.Received.{KeepsReceipts}
use Rattle.ax_stays.proofs.Histories.{keeps_after}
use Rattle.ax_stays.proofs.forest_round.ForestRound.ask.Goals as goal

pub invariant_of-self : goal.invariant_of-self
invariant_of-self c =
    subst (λ h. KeepsReceipts h c.self.inside.receipts) (sym (ap (λ (p : Past). p.history) c.ask.ensures.entry)) (keeps_after c.ask.result c.self.inside.forest.history c.self.inside.receipts (Asked c.args.t) tt c.self.invariant)

pub returns-clause-answer : goal.returns-clause-answer
returns-clause-answer c = subst (λ (p : Past). IsAnswer p.trees p.history c.args.t c.ask.result) c.self.view_is c.ask.ensures.answer

pub returns-clause-entry : goal.returns-clause-entry
returns-clause-entry c = c.ask.ensures.entry ∙ ap (past_after c.ask.result (Asked c.args.t)) c.self.view_is

pub returns-clause-token : goal.returns-clause-token
returns-clause-token c = subst (λ (p : Past). IfOk c.ask.result (λ k. k.0 ≡ token_of p.history c.args.t + 1)) c.self.view_is c.ask.ensures.token
