-- What a change of a page makes of its places and of the number of its values.
use Rattle.std.proofs.Common.{◌≡◌, ℕ, zero, suc, ◌+◌, ◌≤◌, ◌<◌, Bool, true, false, cond, eqb, List, [], ◌∷◌, ◌++◌, length, get_or, length-append, Option, Some, None, refl, ap, subst, ◌∙◌, arith}
use Rattle.std.specs.Prelude.{option_map, slice_set, is_some, IsSome, ◌≢◌}
use Rattle.std.proofs.lemmas.List.Sums.{sum_by-cons, count_by-le-length}
use Rattle.std.specs.declared.sync.Arc.{Arc}
use Rattle.std.specs.Arc.{arc_value}
use Rattle.std.proofs.lemmas.Bool.{eqb-true, eqb-false}
use Rattle.std.proofs.lemmas.List.{length-map}
use Rattle.ax_pages.specs.Slots.{slot, used_count, one_if_some, values_in}

module _ {X Z : Type 0} where
  slot_pushed : (xs : List (Option (Arc X Z))) (j : ℕ) → slot (values_in (xs ++ None ∷ [])) j ≡ slot (values_in xs) j
  slot_pushed [] zero = refl
  slot_pushed [] (suc j) = refl
  slot_pushed (x ∷ xs) zero = refl
  slot_pushed (x ∷ xs) (suc j) = slot_pushed xs j

  slot_longer : (b : Bool) (xs ys : List (Option (Arc X Z))) (j : ℕ) → ys ≡ cond b (xs ++ None ∷ []) xs → slot (values_in ys) j ≡ slot (values_in xs) j
  slot_longer true xs ys j e = ap (λ zs. slot (values_in zs) j) e ∙ slot_pushed xs j
  slot_longer false xs ys j e = ap (λ zs. slot (values_in zs) j) e

  set_here : (xs : List (Option (Arc X Z))) (i : ℕ) (v : Option (Arc X Z)) → i < length xs → slot (values_in (slice_set xs i v)) i ≡ option_map arc_value v
  set_here [] i v h = absurd (omega arith)
  set_here (x ∷ xs) zero None h = refl
  set_here (x ∷ xs) zero (Some a) h = refl
  set_here (x ∷ xs) (suc i) v h = set_here xs i v (omega arith)

  set_other : (xs : List (Option (Arc X Z))) (i j : ℕ) (v : Option (Arc X Z)) → (i ≡ j → ⊥) → slot (values_in (slice_set xs i v)) j ≡ slot (values_in xs) j
  set_other [] i j v h = refl
  set_other (x ∷ xs) zero zero v h = absurd (h refl)
  set_other (x ∷ xs) zero (suc j) v h = refl
  set_other (x ∷ xs) (suc i) zero v h = refl
  set_other (x ∷ xs) (suc i) (suc j) v h = set_other xs i j v (λ e. h (ap suc e))

  pub slot_set : (xs : List (Option (Arc X Z))) (i j : ℕ) (v : Option (Arc X Z)) → i < length (values_in xs) → slot (values_in (slice_set xs i v)) j ≡ cond (eqb i j) (option_map arc_value v) (slot (values_in xs) j)
  slot_set xs i j v h = go (eqb i j) refl
    where
      go : (b : Bool) → eqb i j ≡ b → slot (values_in (slice_set xs i v)) j ≡ cond b (option_map arc_value v) (slot (values_in xs) j)
      go true e = subst (λ k. slot (values_in (slice_set xs i v)) k ≡ option_map arc_value v) (eqb-true i j e) (set_here xs i v (omega (arith, h, length-map xs (λ o. option_map arc_value o))))
      go false e = set_other xs i j v (eqb-false i j e)

module _ {X : Type 0} where
  pub used_cons : (o : Option X) (xs : List (Option X)) → used_count (o ∷ xs) ≡ one_if_some o + used_count xs
  used_cons o xs = sum_by-cons (λ x. cond (is_some x) 1 0) o xs

  -- there are no more values than places
  pub used_le : (xs : List (Option X)) → used_count xs ≤ length xs
  used_le xs = count_by-le-length is_some xs

  -- a value at some place is counted
  pub one_le_used : (xs : List (Option X)) (i : ℕ) → one_if_some (slot xs i) ≤ used_count xs
  one_le_used [] i = omega arith
  one_le_used (o ∷ xs) zero = omega (arith, used_cons o xs)
  one_le_used (o ∷ xs) (suc i) = omega (arith, used_cons o xs, one_le_used xs i)

  some_is : (o : Option X) → one_if_some o ≡ 0 → o ≡ None
  some_is None e = refl
  some_is (Some x) e = absurd (omega arith)

  -- what is counted at two places
  two_le_used : (xs : List (Option X)) (i j : ℕ) → i ≢ j → one_if_some (slot xs i) + one_if_some (slot xs j) ≤ used_count xs
  two_le_used [] i j h = omega arith
  two_le_used (o ∷ xs) zero zero h = absurd (h refl)
  two_le_used (o ∷ xs) zero (suc j) h = omega (arith, used_cons o xs, one_le_used xs j)
  two_le_used (o ∷ xs) (suc i) zero h = omega (arith, used_cons o xs, one_le_used xs i)
  two_le_used (o ∷ xs) (suc i) (suc j) h = omega (arith, used_cons o xs, two_le_used xs i j (λ e. h (ap suc e)))

  one_of_some : (o : Option X) → IsSome o → one_if_some o ≡ 1
  one_of_some None h = cc
  one_of_some (Some x) h = refl

  -- beside the single value of a page there is none
  pub none_beside : (xs : List (Option X)) (i j : ℕ) → used_count xs ≡ 1 → IsSome (slot xs i) → i ≢ j → slot xs j ≡ None
  none_beside xs i j e h ne = some_is (slot xs j) (omega (arith, two_le_used xs i j ne, one_of_some (slot xs i) h))

module _ {X Z : Type 0} where
  used_pushed : (xs : List (Option (Arc X Z))) → used_count (values_in (xs ++ None ∷ [])) ≡ used_count (values_in xs)
  used_pushed [] = refl
  used_pushed (o ∷ xs) = omega (arith, used_cons (option_map arc_value o) (values_in (xs ++ None ∷ [])), used_cons (option_map arc_value o) (values_in xs), used_pushed xs)

  used_longer : (b : Bool) (xs ys : List (Option (Arc X Z))) → ys ≡ cond b (xs ++ None ∷ []) xs → used_count (values_in ys) ≡ used_count (values_in xs)
  used_longer true xs ys e = ap (λ zs. used_count (values_in zs)) e ∙ used_pushed xs
  used_longer false xs ys e = ap (λ zs. used_count (values_in zs)) e

  pub length_values : (xs : List (Option (Arc X Z))) → length (values_in xs) ≡ length xs
  length_values xs = length-map xs (λ o. option_map arc_value o)

  length_longer : (b : Bool) (xs ys : List (Option (Arc X Z))) → ys ≡ cond b (xs ++ None ∷ []) xs → length ys ≤ length xs + 1
  length_longer true xs ys e = omega (arith, ap length e, length-append xs (None ∷ []))
  length_longer false xs ys e = omega (arith, ap length e)

  -- what a place more changes
  pub record Lengthened (xs ys : List (Option (Arc X Z))) : Type 0 where
    pub slots : (j : ℕ) → slot (values_in ys) j ≡ slot (values_in xs) j
    pub used : used_count (values_in ys) ≡ used_count (values_in xs)
    pub len : length ys ≤ length xs + 1

  pub longer : (b : Bool) (xs ys : List (Option (Arc X Z))) → ys ≡ cond b (xs ++ None ∷ []) xs → Lengthened xs ys
  longer b xs ys e = record { slots = λ j. slot_longer b xs ys j e; used = used_longer b xs ys e; len = length_longer b xs ys e }

  -- the element at a place, as a page has it
  pub slot_is : (xs : List (Option (Arc X Z))) (i : ℕ) (o : Option (Arc X Z)) → i < length xs → o ≡ get_or xs i o → slot (values_in xs) i ≡ option_map arc_value o
  slot_is [] i o h e = absurd (omega arith)
  slot_is (None ∷ xs) zero o h e = rw e refl
  slot_is (Some a ∷ xs) zero o h e = rw e refl
  slot_is (x ∷ xs) (suc i) o h e = slot_is xs i o (omega arith) e

  pub same_one : (o : Option (Arc X Z)) → one_if_some (option_map arc_value o) ≡ cond (is_some o) 1 0
  same_one None = refl
  same_one (Some a) = refl

  -- the element at a place is counted as the page has it
  pub had_one : (xs : List (Option (Arc X Z))) (i : ℕ) (o : Option (Arc X Z)) → i < length xs → o ≡ get_or xs i o
      → (cond (is_some o) 1 0 ≤ used_count (values_in xs)) × (one_if_some (slot (values_in xs) i) ≡ cond (is_some o) 1 0)
  had_one xs i o h e =
      let same : one_if_some (slot (values_in xs) i) ≡ cond (is_some o) 1 0 = ap one_if_some (slot_is xs i o h e) ∙ same_one o in
      (omega (arith, same, one_le_used (values_in xs) i), same)

  -- a count after one place was set
  pub used_set : (xs : List (Option (Arc X Z))) (i : ℕ) (v : Option (Arc X Z)) → i < length xs
      → used_count (values_in (slice_set xs i v)) + one_if_some (slot (values_in xs) i) ≡ used_count (values_in xs) + one_if_some (option_map arc_value v)
  used_set [] i v h = absurd (omega arith)
  used_set (o ∷ xs) zero v h = omega (arith, used_cons (option_map arc_value v) (values_in xs), used_cons (option_map arc_value o) (values_in xs))
  used_set (o ∷ xs) (suc i) v h =
      omega (arith, used_cons (option_map arc_value o) (values_in (slice_set xs i v)), used_cons (option_map arc_value o) (values_in xs), used_set xs i v (omega arith))
