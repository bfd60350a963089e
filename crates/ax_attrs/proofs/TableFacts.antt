-- The four tables keep the rule of tables, and what their rows all have.
use Rattle.std.proofs.Common.{◌≡◌, ◌<◌, ◌≤◌, ℕ, zero, suc, Bool, true, nat_lt, ◌&&◌, List, [], ◌∷◌, slice_get, Option, Some, None, is_some, option_map, refl, sym, ap, ◌∙◌, arith}
use Rattle.std.specs.List.{list_all}
use Rattle.std.specs.Option.{SomeIff, option_and_then}
use Rattle.std.proofs.lemmas.Option.{same_Some}
use Rattle.ax_attrs.specs.Entry.{Entry, IsTable, event_of, row_of}
use Rattle.ax_attrs.specs.Tables.{role_rows, state_rows, key_rows, event_rows}
use Rattle.ax_attrs.proofs.NameLemmas.{tested, both_left, both_right}
use Rattle.ax_attrs.specs.declared.table.When.{When}
use borrow.Author.Tests.{ltb-true}

pub roles_table : IsTable role_rows
roles_table = tested role_rows refl refl

pub states_table : IsTable state_rows
states_table = tested state_rows refl refl

pub keys_table : IsTable key_rows
keys_table = tested key_rows refl refl

pub events_table : IsTable event_rows
events_table = tested event_rows refl refl

all-at : (p : Entry → Bool) (rows : List Entry) (i : ℕ) (row : Entry) → slice_get rows i ≡ Some row → list_all p rows ≡ true → p row ≡ true
all-at p [] i row at all = absurd (cc)
all-at p (first ∷ rows) zero row at all = sym (ap p (same_Some first row at)) ∙ both_left _ _ all
all-at p (first ∷ rows) (suc i) row at all = all-at p rows i row at (both_right _ _ all)

-- what is true of each row is true of the row of a number
of-all : (p : Entry → Bool) (rows : List Entry) (number : ℕ) (row : Entry) → row_of rows number ≡ Some row → list_all p rows ≡ true → p row ≡ true
of-all p rows zero row at all = absurd (cc)
of-all p rows (suc i) row at all = all-at p rows i row at all

-- each attribute has a kind
pub has_kind : (number : ℕ) (row : Entry) → row_of key_rows number ≡ Some row → is_some row.kind ≡ true
has_kind number row at = of-all (λ r. is_some r.kind) key_rows number row at refl

-- the number of an event, where there is one, is that of a row
event_fits : Entry → Bool
event_fits row = elim row.event [ None ↦ true | Some event ↦ nat_lt 0 event.0 && nat_lt event.0 31 ]

pub key_event_fits : (number : ℕ) (row : Entry) (event : ℕ) (when : When) → row_of key_rows number ≡ Some row → row.event ≡ Some (event, when) → (0 < event) × (event ≤ 30)
unfolding event_fits
key_event_fits number row event when at is =
    let fits : event_fits row ≡ true = of-all event_fits key_rows number row at refl in
    let both : (nat_lt 0 event && nat_lt event 31) ≡ true = sym (ap (λ o. elim o [ None ↦ true | Some e ↦ nat_lt 0 e.0 && nat_lt e.0 31 ]) is) ∙ fits in
    let below : event < 31 = ltb-true event 31 (both_right (nat_lt 0 event) (nat_lt event 31) both) in
    let within : event ≤ 30 = omega (arith, below) in
    (ltb-true 0 event (both_left (nat_lt 0 event) (nat_lt event 31) both), within)

-- the event that a row of an attribute has
pub found_event : (number : ℕ) (row : Entry) (event : ℕ) (when : When) (found : Option ℕ) → row_of key_rows number ≡ Some row → row.event ≡ Some (event, when)
    → SomeIff found ((0 < event) × (event ≤ 30)) event → found ≡ option_map (λ e. e.0) (event_of key_rows number)
found_event number row event when found at is exactly =
    some found exactly ∙ sym (ap (λ o. option_map (λ e. e.0) (option_and_then (λ r. r.event) o)) at ∙ ap (option_map (λ e. e.0)) is)
  where
    fits : (0 < event) × (event ≤ 30)
    fits = key_event_fits number row event when at is

    some : (found : Option ℕ) → SomeIff found ((0 < event) × (event ≤ 30)) event → found ≡ Some event
    some None none = absurd (none fits)
    some (Some n) one = ap Some one.1
