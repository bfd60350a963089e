use Rattle.std.proofs.Common.{◌≡◌, ◌∙◌, ap, sym, not, true, false, Bool, refl}
use Rattle.ax_tree.specs.UpdateRule.{first_repeated}
use Rattle.std.specs.Prelude.{[]}
use Rattle.ax_mirror.proofs.Lists.{twice_here, twice_next}
use Rattle.ax_mirror.proofs.children.first_repeated.Goals as goal

no_false : (b c : Bool) → c ≡ not b → false ≡ c → b ≡ true
no_false true c e f = refl
no_false false c e f = absurd (cc)

no_true : (b c : Bool) → c ≡ not b → true ≡ c → b ≡ false
no_true false c e f = refl
no_true true c e f = absurd (cc)

pub returns-in-Ok-false : goal.returns-in-Ok-false
returns-in-Ok-false c =
    sym (ap (first_repeated []) (sym c.as_slice-id-items.ensures)
    ∙ twice_here _ _ c.loop-id.id-index c.id-item.result c.loop-id.invariant (record { low = c.loop-id-test.true; item = c.id-item.is })
    (no_false _ c.in-Ok-false.field-0 c.in-Ok-false.ensures.added (sym c.in-Ok-false.field-0-test)))

pub loop-id-preserved : goal.loop-id-preserved
loop-id-preserved c =
    twice_next _ _ _ c.loop-id.id-index c.id-item.result c.loop-id.invariant (record { low = c.loop-id-test.true; item = c.id-item.is })
    (no_true _ c.in-Ok-true.field-0 c.in-Ok-true.ensures.added (sym c.in-Ok-true.field-0-test)) (λ z. c.in-Ok-true.ensures.updates.0 z)
