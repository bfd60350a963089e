use Rattle.std.proofs.Common.{IfOk, ap, subst, sym, ◌∙◌}
use Rattle.ax_tree.specs.declared.packet.HEntry.TheVariants.{Probed}
use Rattle.ax_tree.specs.Tree.{Tree}
use Rattle.ax_rules.specs.Mirrors.{mirror_of}
use Rattle.ax_rules.proofs.Building.{bundles_build}
use Rattle.ax_forest.specs.Entries.{past_after, IsAnswer, IsProbed}
use Rattle.ax_forest.specs.Past.{Past}
use Rattle.ax_stays.specs.Received.{KeepsReceipts}
use Rattle.ax_stays.proofs.Histories.{keeps_after}
use Rattle.ax_stays.proofs.forest_round.ForestRound.probe.Goals as goal

pub invariant_of-self : goal.invariant_of-self
invariant_of-self c =
    subst (λ h. KeepsReceipts h c.self.inside.receipts) (sym (ap (λ (p : Past). p.history) c.probe.ensures.entry)) (keeps_after c.probe.result c.self.inside.forest.history c.self.inside.receipts (Probed c.args.t c.args.update.now) tt c.self.invariant)

pub returns-clause-answer : goal.returns-clause-answer
returns-clause-answer c = subst (λ (p : Past). IsAnswer p.trees p.history c.args.t c.probe.result) c.self.view_is c.probe.ensures.answer

pub returns-clause-entry : goal.returns-clause-entry
returns-clause-entry c = c.probe.ensures.entry ∙ ap (past_after c.probe.result (Probed c.args.t c.args.update.now)) c.self.view_is

pub returns-clause-out : goal.returns-clause-out
returns-clause-out c =
    subst (λ (p : Past). IfOk c.probe.result (IsProbed c.args.update.now (mirror_of p.history c.args.t))) c.self.view_is
    (subst (λ (m : Tree). IfOk c.probe.result (IsProbed c.args.update.now m)) (bundles_build c.self.inside.forest.history c.args.t (c.self.invariant.good c.args.t)) c.probe.ensures.out)
