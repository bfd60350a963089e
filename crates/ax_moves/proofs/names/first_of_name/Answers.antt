use Rattle.std.proofs.Common.{sym, ap, ◌∙◌}
use Rattle.std.specs.Option.{option_copied}
use Rattle.ax_node.specs.Look.{look_of}
use Rattle.ax_rules.specs.Looks.{name_text, text_in}
use Rattle.ax_moves.proofs.BelowLemmas.{no_word}
use Rattle.ax_moves.proofs.names.first_of_name.Goals as goal

pub returns-in_default-2 : goal.returns-in_default-2
returns-in_default-2 c = no_word (name_text (look_of c.args.node.now)) (ap text_in (sym c.get.ensures.value ∙ ap option_copied c.in_default.is))
