use Rattle.std.proofs.Common.{ap, ◌∙◌, ◌++◌, ◌∷◌, [], sym}
use Rattle.ax_turn_uses.proofs.NoteLemmas.{first_more, first_none}
use Rattle.ax_turn_uses.proofs.two.add_all.Goals as goal

pub loop-number-init : goal.loop-number-init
loop-number-init g c = record { seat = c.requires.seat; so_far = c.requires.none ∙ sym first_none }

pub loop-number-preserved : goal.loop-number-preserved
loop-number-preserved g c = record {
  seat = c.if-not-add_one.ensures.seat;
  so_far = c.if-not-add_one.ensures.added ∙ (ap (λ l. l ++ c.loop-number.number ∷ []) c.loop-number.invariant.so_far ∙ sym (first_more c.loop-number.number));
}
