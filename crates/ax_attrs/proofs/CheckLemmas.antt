-- The rule of tables as the check of a table comes to it, row by row.
use Rattle.std.proofs.Common.{◌≡◌, ◌≢◌, ◌<◌, ◌+◌, ◌⊎◌, ◌↔◌, inl, inr, ℕ, Bool, true, false, not, nat_eq, IsTrue, List, length, slice_get, Option, Some, None, refl, sym, ap, ◌∙◌, arith}
use Rattle.std.specs.Option.{option_eq}
use Rattle.std.proofs.lemmas.Bool.{eqb-true, eq-eqb}
use Rattle.std.proofs.lemmas.Option.{slice_get_within, same_Some}
use Rattle.ax_attrs.specs.Entry.{Entry, IsTable, number_named}
use Rattle.ax_attrs.proofs.NameLemmas.{named-at}

-- the first `count` rows have their places' numbers, and are the first with their names
pub record InPlace (rows : List Entry) (count : ℕ) : Type 0 where
  pub number : (i : ℕ) (row : Entry) → i < count → slice_get rows i ≡ Some row → row.number ≡ i + 1
  pub first : (i : ℕ) (row : Entry) → i < count → slice_get rows i ≡ Some row → number_named rows row.name ≡ Some (i + 1)

pub none_yet : (rows : List Entry) → InPlace rows 0
none_yet rows = record {
  number = λ i row below at. absurd (omega arith);
  first = λ i row below at. absurd (omega arith);
}

pub one_more : (rows : List Entry) (count : ℕ) (row : Entry) → slice_get rows count ≡ Some row → row.number ≡ count + 1
    → number_named rows row.name ≡ Some row.number → InPlace rows count → InPlace rows (count + 1)
one_more rows count row at number first before = record {
  number = λ i other below there. number_at i other there (apart i count below);
  first = λ i other below there. first_at i other there (apart i count below);
}
  where
    apart : (i count : ℕ) → i < count + 1 → (i < count) ⊎ (i ≡ count)
    apart i count below = grind arith

    same_row : (i : ℕ) (other : Entry) → slice_get rows i ≡ Some other → i ≡ count → row ≡ other
    same_row i other there e = same_Some row other (sym at ∙ ap (slice_get rows) (sym e) ∙ there)

    number_at : (i : ℕ) (other : Entry) → slice_get rows i ≡ Some other → (i < count) ⊎ (i ≡ count) → other.number ≡ i + 1
    number_at i other there (inl below) = before.number i other below there
    number_at i other there (inr e) = sym (ap (λ r. r.number) (same_row i other there e)) ∙ number ∙ ap (λ k. k + 1) (sym e)

    first_at : (i : ℕ) (other : Entry) → slice_get rows i ≡ Some other → (i < count) ⊎ (i ≡ count) → number_named rows other.name ≡ Some (i + 1)
    first_at i other there (inl below) = before.first i other below there
    first_at i other there (inr e) = sym (ap (λ r. number_named rows r.name) (same_row i other there e)) ∙ first ∙ ap Some (number ∙ ap (λ k. k + 1) (sym e))

pub all_in_place : (rows : List Entry) (count : ℕ) → length rows ≡ count → InPlace rows count → IsTable rows
all_in_place rows count all places = record {
  numbered = λ i row at. places.number i row (within i row at) at;
  distinct = λ i j a b at_i at_j same. places_same i j (same_Some (i + 1) (j + 1) (sym (places.first i a (within i a at_i) at_i) ∙ ap (number_named rows) same ∙ places.first j b (within j b at_j) at_j));
}
  where
    within : (i : ℕ) (row : Entry) → slice_get rows i ≡ Some row → i < count
    within i row at = let h = slice_get_within rows i row at in omega (arith, h, all)

    places_same : (i j : ℕ) → i + 1 ≡ j + 1 → i ≡ j
    places_same i j e = omega arith

-- a row that is out of place shows that the rows are no table
pub other_number : (rows : List Entry) (i : ℕ) (row : Entry) → slice_get rows i ≡ Some row → row.number ≢ i + 1 → IsTrue false ↔ IsTable rows
other_number rows i row at other = (λ no. absurd (cc no), λ table. absurd (other (table.numbered i row at)))

pub not_first : (rows : List Entry) (i : ℕ) (row : Entry) (found : Option ℕ) → slice_get rows i ≡ Some row → row.number ≡ i + 1
    → found ≡ number_named rows row.name → true ≡ not (option_eq nat_eq found (Some row.number)) → IsTrue false ↔ IsTable rows
not_first rows i row found at number is other = (λ no. absurd (cc no), λ table. absurd (cc (other, same (is ∙ named-at rows table i row at ∙ ap Some (sym number)))))
  where
    same : found ≡ Some row.number → option_eq nat_eq found (Some row.number) ≡ true
    same e = ap (λ o. option_eq nat_eq o (Some row.number)) e ∙ eq-eqb row.number row.number refl

pub is_first : (o : Option ℕ) (n : ℕ) → false ≡ not (option_eq nat_eq o (Some n)) → o ≡ Some n
is_first None n same = absurd (cc same)
is_first (Some k) n same = ap Some (eqb-true k n (not_false _ same))
  where
    not_false : (b : Bool) → false ≡ not b → b ≡ true
    not_false true e = refl
    not_false false e = absurd (cc e)
