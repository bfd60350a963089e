use Rattle.std.proofs.Common.{ap, ◌∙◌}
use Rattle.std.specs.Str.{chars}
use Rattle.ax_base.proofs.TextLemmas.{no-chars}
use Rattle.ax_base.proofs.text.Text.of_string.Goals as goal

pub returns-then-is_empty : goal.returns-then-is_empty
returns-then-is_empty c =
    c.new.ensures ∙ no-chars c.as_str.result.now _ c.is_empty.ensures c.if-is_empty.true ∙ ap chars c.as_str.ensures.value
