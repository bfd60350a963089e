use Rattle.std.proofs.Common.{ap, subst, sym, ◌∙◌}
use Rattle.ax_tree.specs.declared.packet.HEntry.TheVariants.{Ended}
use Rattle.ax_forest.specs.Entries.{past_after, IsAnswer}
use Rattle.ax_forest.specs.Past.{Past}
use Rattle.ax_stays.specs.Received.{KeepsReceipts}
use Rattle.ax_stays.proofs.Histories.{keeps_after}
use Rattle.ax_stays.proofs.forest_round.ForestRound.destroy.Goals as goal

pub invariant_of-self : goal.invariant_of-self
invariant_of-self c =
    subst (λ h. KeepsReceipts h c.self.inside.receipts) (sym (ap (λ (p : Past). p.history) c.destroy.ensures.entry)) (keeps_after c.destroy.result c.self.inside.forest.history c.self.inside.receipts (Ended c.args.t) tt c.self.invariant)

pub returns-clause-answer : goal.returns-clause-answer
returns-clause-answer c = subst (λ (p : Past). IsAnswer p.trees p.history c.args.t c.destroy.result) c.self.view_is c.destroy.ensures.answer

pub returns-clause-entry : goal.returns-clause-entry
returns-clause-entry c = c.destroy.ensures.entry ∙ ap (past_after c.destroy.result (Ended c.args.t)) c.self.view_is
