use Rattle.ax_base.proofs.TextLemmas.{bytes-of-chars}
use Rattle.ax_moves.proofs.names.first_word_of.Goals as goal

pub returns : goal.returns
returns c = rw (bytes-of-chars c.as_str.result.now c.args.text.now c.as_str.utf8 c.as_str.ensures) c.first_word.ensures
