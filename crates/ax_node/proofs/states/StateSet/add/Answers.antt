use Rattle.std.proofs.Common.{◌≡◌, ◌<◌, ◌≤◌, ◌↔◌, IsTrue, true, ℕ, length, slice_index, subst, ap, sym, ◌∙◌}
use Rattle.ax_node.specs.States.{with_state, are_ascending}
use Rattle.ax_node.proofs.StateLemmas.{with-here, inserted_is, ascending-with}
use Rattle.ax_node.proofs.states.StateSet.add.Goals as goal

pub returns-then-stands_at-clause-ok : goal.returns-then-stands_at-clause-ok
returns-then-stands_at-clause-ok c =
    let at = c.stands_at.ensures.0 c.if-stands_at.true in
    let same : c.as_slice.result.now ≡ c.as_slice-2.result.now = c.as_slice.ensures.value ∙ sym c.as_slice-2.ensures.value in
    let kept : with_state c.as_slice-2.result.now c.args.s ≡ c.as_slice-2.result.now =
    with-here _ _ _ (subst (λ xs. (k : ℕ) → k < c.place_of-place.result → slice_index xs k < c.args.s) same c.place_of-place.ensures.below) at.0 at.1 in
    let is : c.as_slice-2.result.now ≡ c.args.self.now = c.as_slice-2.ensures.value ∙ c.self.view_is in
    sym (subst (λ xs. with_state xs c.args.s ≡ xs) is kept)

grown : (c : goal.In-Ok) → c.insert.new.self.items ≡ with_state c.self.inside.states.items c.args.s
grown c =
    c.in-Ok.ensures.items ∙ inserted_is c.self.inside.states.items c.args.s c.place_of-place.result c.stands_at.result
    (subst (λ xs. c.place_of-place.result ≤ length xs) c.as_slice.ensures.value c.place_of-place.ensures.within)
    (subst (λ xs. (k : ℕ) → k < c.place_of-place.result → slice_index xs k < c.args.s) c.as_slice.ensures.value c.place_of-place.ensures.below)
    (subst (λ xs. c.place_of-place.result < length xs → c.args.s ≤ slice_index xs c.place_of-place.result) c.as_slice.ensures.value c.place_of-place.ensures.above)
    (subst (λ xs. IsTrue c.stands_at.result ↔ ((c.place_of-place.result < length xs) × (slice_index xs c.place_of-place.result ≡ c.args.s))) c.as_slice-2.ensures.value c.stands_at.ensures)
    c.if-stands_at.false

pub invariant_of-self-2 : goal.invariant_of-self-2
invariant_of-self-2 c = subst (λ xs. are_ascending xs ≡ true) (sym (grown c)) (ascending-with c.self.inside.states.items c.args.s c.self.invariant)

pub returns-clause-ok : goal.returns-clause-ok
returns-clause-ok c = grown c ∙ ap (λ xs. with_state xs c.args.s) c.self.view_is
