use Rattle.std.proofs.Common.{rules, ◌≡◌, Some, refl, ap, sym, ◌∙◌, subst}
use Rattle.std.specs.Option.{IsSome}
use mathlib.Core.Option.{some-injective}
use Rattle.ax_turn.proofs.Steps.{closes}
use Rattle.ax_turn.proofs.turn.Turn.close_with.Goals as goal

pub unwrap-value-requires : goal.unwrap-value-requires
unwrap-value-requires g c =
    let h = closes _ _ _ _ _ _ _ _ c.seat.inside.place.me.0 (search rules) (search rules) (search rules) c.close_with-closed.ensures.values.2 in
    subst IsSome (some-injective _ _ (sym h.1 ∙ c.take.ensures.value)) refl

pub returns-clause-entries : goal.returns-clause-entries
returns-clause-entries g c =
    let h = closes _ _ _ _ _ _ _ _ c.seat.inside.place.me.0 (search rules) (search rules) (search rules) c.close_with-closed.ensures.values.2 in
    let same : Some h.0 ≡ Some c.unwrap-value.result = some-injective _ _ (sym h.1 ∙ c.take.ensures.value) ∙ c.unwrap-value.ensures in
    let is : h.0 ≡ c.unwrap-value.result = cc in
    ap g.T.Kept.entries (sym is) ∙ (h.2 ∙ ap (λ s. s.seen) c.seat.view_is)

pub returns-clause-name : goal.returns-clause-name
returns-clause-name g c =
    let h = closes _ _ _ _ _ _ _ _ c.seat.inside.place.me.0 (search rules) (search rules) (search rules) c.close_with-closed.ensures.values.2 in
    let same : Some h.0 ≡ Some c.unwrap-value.result = some-injective _ _ (sym h.1 ∙ c.take.ensures.value) ∙ c.unwrap-value.ensures in
    let is : h.0 ≡ c.unwrap-value.result = cc in
    ap g.T.Kept.name (sym is) ∙ (h.3 ∙ ap (λ t. t.name) c.self.view_is)
