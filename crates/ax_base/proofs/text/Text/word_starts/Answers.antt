use Rattle.ax_base.proofs.TextLemmas.{bytes-of-chars}
use Rattle.ax_base.proofs.text.Text.word_starts.Goals as goal

pub returns : goal.returns
returns c = rw (bytes-of-chars c.as_str.result.now c.args.self.now c.as_str.utf8 c.as_str.ensures) c.word_starts_of.ensures
