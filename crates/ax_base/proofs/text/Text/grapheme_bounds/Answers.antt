use Rattle.ax_base.proofs.TextLemmas.{bytes-of-chars}
use Rattle.ax_base.proofs.text.Text.grapheme_bounds.Goals as goal

pub returns : goal.returns
returns c = rw (bytes-of-chars c.as_str.result.now c.args.self.now c.as_str.utf8 c.as_str.ensures) c.grapheme_bounds_of.ensures
