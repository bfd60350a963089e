use Rattle.std.proofs.Common.{ap, ◌∙◌}
use Rattle.ax_turn_uses.specs.Numbers.{numbers_by}
use Rattle.ax_turn_uses.proofs.NoteLemmas.{others_add}
use Rattle.ax_turn_uses.proofs.two.finish.Goals as goal

pub returns-clause-first : goal.returns-clause-first
returns-clause-first c = ap (numbers_by 0) c.close_with.ensures.entries ∙ others_add 0 _ _ _ _ c.requires.first.low c.requires.first.high c.join.ensures.first

pub returns-clause-second : goal.returns-clause-second
returns-clause-second c = ap (numbers_by 1) c.close_with.ensures.entries ∙ others_add 1 _ _ _ _ c.requires.second.low c.requires.second.high c.join.ensures.second
