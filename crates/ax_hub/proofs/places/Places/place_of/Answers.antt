use Rattle.std.proofs.Common.{◌≡◌, slice_get, Some, true, false, not, eq-eqb, ap, sym, ◌∙◌}
use Rattle.ax_hub.proofs.ListLemmas.{there}
use Rattle.ax_hub.proofs.Placing.{no_place, not_there, other_there}
use Rattle.ax_hub.proofs.places.Places.place_of.Goals as goal

pub returns-in_err-tree : goal.returns-in_err-tree
returns-in_err-tree c =
    let s = c.self.inside in
    let found : slice_get s.places.items c.args.t ≡ Some c.in_ok-at.field-0.now = (λ i. slice_get (sym c.deref.ensures.value i) (sym c.get.ensures.same i)) ∙ there c.deref.result.now c.get.result c.in_ok-at.field-0.now c.in_ok-at.ensures.lookup.3.0 c.in_ok-at.ensures.lookup.1 in
    no_place c.from_residual-in_err-tree.result c.args.self.now c.args.t c.from_residual-in_err-tree.ensures
    (not_there s.trees c.args.self.now s.places.items c.args.t c.in_ok-at.field-0.now c.self.view_is c.self.invariant found c.in_err-tree.ensures)

pub returns-then-ne : goal.returns-then-ne
returns-then-ne c =
    let s = c.self.inside in
    let found : slice_get s.places.items c.args.t ≡ Some c.in_ok-at.field-0.now = (λ i. slice_get (sym c.deref.ensures.value i) (sym c.get.ensures.same i)) ∙ there c.deref.result.now c.get.result c.in_ok-at.field-0.now c.in_ok-at.ensures.lookup.3.0 c.in_ok-at.ensures.lookup.1 in
    other_there s.trees c.args.self.now s.places.items c.args.t c.in_ok-at.field-0.now c.in_ok-tree.field-0.now c.self.view_is c.self.invariant found c.in_ok-tree.ensures
    (λ e. (let bad : true ≡ false = sym c.if-ne.true ∙ (c.ne.ensures ∙ ap not (eq-eqb c.in_ok-tree.field-0.now c.args.t e)) in cc))
