use Rattle.std.proofs.Common.{◌≡◌, ◌∙◌, ap, sym, length, arith, ℕ, Bool, true, cond, eqb, Option, ◌<◌, ◌≤◌, List, length-set}
use Rattle.std.specs.Prelude.{option_map, slice_set, is_some}
use Rattle.std.specs.Arc.{arc_value}
use Rattle.ax_pages.specs.Slots.{slot, used_count, values_in}
use Rattle.ax_pages.proofs.SlotLemmas.{slot_set, used_set, had_one, length_values, same_one, slot_is}
use Rattle.ax_pages.proofs.page.Page.replace.Goals as goal

pub count_after-self-inside-requires-clause-counted : goal.count_after-self-inside-requires-clause-counted
count_after-self-inside-requires-clause-counted g c h =
    let xs = c.self.inside.slots.items in
    let long : c.args.place < length xs = omega (arith, ap length c.self.view_is, length_values xs, c.requires) in
    let one : cond (is_some c.index.result.now) 1 0 ≤ used_count (values_in xs) = (had_one xs c.args.place c.index.result.now long c.index.ensures).0 in
    let there : is_some c.index.result.now ≡ true = sym c.is_some.ensures ∙ h in
    omega (arith, c.self.invariant.1, rw there at one)

pub invariant_of-self : goal.invariant_of-self
invariant_of-self g c =
    let xs = c.self.inside.slots.items in
    let long : c.args.place < length xs = omega (arith, ap length c.self.view_is, length_values xs, c.requires) in
    let had : ◌≡◌ {A = ℕ} (cond c.is_some.result 1 0) (cond (is_some c.index.result.now) 1 0) = ap (λ (b : Bool). cond b 1 0) c.is_some.ensures in
    let has : ◌≡◌ {A = ℕ} (cond c.is_some-2.result 1 0) (cond (is_some c.args.value) 1 0) = ap (λ (b : Bool). cond b 1 0) c.is_some-2.ensures in
    let before = had_one xs c.args.place c.index.result.now long c.index.ensures in
    rw c.replace.ensures.after (
      omega (arith, length_values xs, length_values (slice_set xs c.args.place c.args.value), length-set xs c.args.place c.args.value, c.self.invariant.0),
      omega (arith, c.count_after-self-inside.ensures, had, has, before.1, used_set xs c.args.place c.args.value long, same_one c.args.value, c.self.invariant.1),
    )

pub returns-clause-was : goal.returns-clause-was
returns-clause-was g c =
    let xs = c.self.inside.slots.items in
    let long : c.args.place < length xs = omega (arith, ap length c.self.view_is, length_values xs, c.requires) in
    ap (option_map arc_value) c.replace.ensures.value
    ∙ sym (slot_is xs c.args.place c.index_mut.result.now long c.index_mut.ensures.value)
    ∙ ap (λ (ys : List (Option g.row.T.Denot)). slot ys c.args.place) c.self.view_is

pub returns-clause-slots : goal.returns-clause-slots
returns-clause-slots g c j =
    let xs = c.self.inside.slots.items in
    let long : c.args.place < length (values_in xs) = omega (arith, ap length c.self.view_is, c.requires) in
    ap (λ (o : Option _). slot (values_in (slice_set xs c.args.place o)) j) c.replace.ensures.after
    ∙ slot_set xs c.args.place j c.args.value long
    ∙ ap (cond (eqb c.args.place j) (option_map arc_value c.args.value)) (ap (λ (ys : List (Option g.row.T.Denot)). slot ys j) c.self.view_is)

pub returns-clause-used : goal.returns-clause-used
returns-clause-used g c =
    let xs = c.self.inside.slots.items in
    let long : c.args.place < length xs = omega (arith, ap length c.self.view_is, length_values xs, c.requires) in
    let set = used_set xs c.args.place c.args.value long in
    rw c.replace.ensures.after (rw (← c.self.view_is) set)
