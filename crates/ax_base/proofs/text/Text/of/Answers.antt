use Rattle.std.proofs.Common.{◌∙◌}
use Rattle.ax_base.proofs.TextLemmas.{no-chars}
use Rattle.ax_base.proofs.text.Text.of.Goals as goal

pub returns-then-is_empty : goal.returns-then-is_empty
returns-then-is_empty c = c.new.ensures ∙ no-chars c.args.s.now _ c.is_empty.ensures c.if-is_empty.true
