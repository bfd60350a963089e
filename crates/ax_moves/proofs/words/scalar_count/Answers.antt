use Rattle.std.proofs.Common.{rules}
use Rattle.std.proofs.lemmas.Str.{chars_from_encodes}
use Rattle.ax_moves.proofs.words.scalar_count.Goals as goal

pub returns-clause-same : goal.returns-clause-same
returns-clause-same c = search (rules, chars_from_encodes)
