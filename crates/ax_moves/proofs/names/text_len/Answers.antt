use Rattle.ax_moves.proofs.BelowLemmas.{text_scalars}
use Rattle.ax_moves.proofs.names.text_len.Goals as goal

pub returns-clause-text : goal.returns-clause-text
returns-clause-text c = text_scalars c.as_str.result.now c.args.text.now c.as_str.utf8 c.as_str.ensures
