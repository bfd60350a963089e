use Rattle.ax_moves.proofs.BelowLemmas.{word_of_empty, start_of_empty}
use Rattle.ax_moves.proofs.below.last_of_empty.Goals as goal

pub returns-in-Word : goal.returns-in-Word
returns-in-Word c = word_of_empty c.args.unit.now c.args.start c.args.offset c.in-Word.is

pub returns-in_default : goal.returns-in_default
returns-in_default c = start_of_empty c.args.unit.now c.args.start c.args.offset c.start_below.result c.in_default.not-Word c.start_below.ensures
