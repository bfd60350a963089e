use Rattle.std.proofs.Common.{◌∙◌, sym}
use Rattle.ax_forest.proofs.Verdicts.{is_stale, is_gap, is_applied}
use Rattle.ax_forest.proofs.judging.judged.Goals as goal

pub returns-then-not-same_number : goal.returns-then-not-same_number
returns-then-not-same_number c = λ h told live i. is_stale h c.args.packet.now told c.args.tally.now live i (sym c.same_number.ensures ∙ c.if-not-same_number.true)

pub returns-then-is_near : goal.returns-then-is_near
returns-then-is_near c = λ h told live i. is_applied h c.args.packet.now told c.args.tally.now live i (sym c.same_number.ensures ∙ c.if-not-same_number.false) (sym c.is_near.ensures ∙ c.if-is_near.true)

pub returns-else-is_near : goal.returns-else-is_near
returns-else-is_near c = λ h told live i. is_gap h c.args.packet.now told c.args.tally.now live i (sym c.same_number.ensures ∙ c.if-not-same_number.false) (sym c.is_near.ensures ∙ c.if-is_near.false)
