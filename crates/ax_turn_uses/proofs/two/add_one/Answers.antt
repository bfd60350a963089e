use Rattle.std.proofs.Common.{rules, ap, sym, ◌∙◌, ◌++◌, ◌∷◌, [], refl}
use Rattle.ax_turn_uses.specs.Numbers.{numbers_by}
use Rattle.ax_turn_uses.proofs.NoteLemmas.{others_add, own_adds}
use Rattle.ax_turn_uses.proofs.two.add_one.Goals as goal

pub leave-requires-clause-grows : goal.leave-requires-clause-grows
leave-requires-clause-grows g c = (
  record { by = c.args.by; number = c.args.number } ∷ [],
  c.in-Ok.ensures.items ∙ ap (λ l. l ++ record { by = c.args.by; number = c.args.number } ∷ []) (sym (ap (λ s. s.seen) c.enter-notes.ensures.seat)),
  ((search rules, search rules), tt),
)

pub returns-in-Ok-clause-added : goal.returns-in-Ok-clause-added
returns-in-Ok-clause-added g c =
    let k = c.args.by in
    ap (λ s. numbers_by k s.seen) c.leave.ensures
    ∙ (ap (numbers_by k) c.in-Ok.ensures.items
    ∙ (own_adds k c.args.number _ record { by = k; number = c.args.number } refl refl
    ∙ ap (λ l. l ++ c.args.number ∷ []) (others_add k _ _ _ _ c.requires.low c.requires.high c.enter-notes.ensures.begins)))

pub returns-in-Err-clause-added : goal.returns-in-Err-clause-added
returns-in-Err-clause-added g c =
    let k = c.args.by in
    ap (λ s. numbers_by k s.seen) c.leave-in-Err.ensures
    ∙ (ap (numbers_by k) c.in-Err.ensures.items ∙ others_add k _ _ _ _ c.requires.low c.requires.high c.enter-notes.ensures.begins)
