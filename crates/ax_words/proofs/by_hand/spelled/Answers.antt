use Rattle.std.proofs.Common.{sym}
use Rattle.std.proofs.lemmas.Str.{encodes-chars}
use Rattle.ax_words.proofs.by_hand.spelled.Goals as goal

pub returns : goal.returns
returns c = rw (← c.as_str.ensures) (sym (encodes-chars c.as_str.result.now c.as_str.utf8))
