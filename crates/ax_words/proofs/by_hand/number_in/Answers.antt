use Rattle.std.proofs.Common.{sym, ◌∙◌}
use Rattle.ax_words.proofs.Numbers.{parsed_in, not_parsed_in}
use Rattle.ax_words.proofs.by_hand.number_in.Goals as goal

pub returns-in-Ok : goal.returns-in-Ok
returns-in-Ok c = c.in_range.ensures ∙ parsed_in c.args.low c.args.high c.in-Ok.number c.args.word.now (sym c.if-not-is_numeral.ensures) (rw c.in-Ok.is at c.parse.ensures.value.0)

pub returns-in-Err : goal.returns-in-Err
returns-in-Err c = not_parsed_in _ c.in-Err.field-0 c.args.low c.args.high c.args.word.now c.ranges.high.fits (sym c.if-not-is_numeral.ensures) (rw c.in-Err.is at c.parse.ensures.value.0)
