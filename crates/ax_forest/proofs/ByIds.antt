-- What a list by ids has after more places, and after a value is put.
use Rattle.std.proofs.Common.{ℕ, zero, suc, ◌<◌, ◌≤◌, ◌≡◌, true, cond, eqb, nat_eq, List, [], ◌∷◌, ◌++◌, length, slice_get, Option, Some, None, refl, sym, ap, subst, ◌∙◌, arith}
use Rattle.std.specs.Prelude.{IsSome, slice_set}
use Rattle.std.proofs.lemmas.Bool.{eqb-true, eqb-false, false≢true}
use Rattle.ax_trees.proofs.Trees.{by_go}
use Rattle.ax_trees.specs.Lists.{contains}
use Rattle.ax_forest.specs.ById.{in_place, at_id, HasPlace, KeepsPlaces, Puts, IsFilled}

module _ {A : Type 0} where
  pub at_pushed : (xs : List (Option A)) (u : ℕ) → at_id (xs ++ None ∷ []) u ≡ at_id xs u
  at_pushed [] zero = refl
  at_pushed [] (suc u) = refl
  at_pushed (x ∷ xs) zero = refl
  at_pushed (x ∷ xs) (suc u) = at_pushed xs u

  pub place_pushed : (xs : List (Option A)) (y : Option A) (u : ℕ) → HasPlace xs u → HasPlace (xs ++ y ∷ []) u
  place_pushed [] y zero h = refl
  place_pushed [] y (suc u) h = absurd (false≢true h)
  place_pushed (x ∷ xs) y zero h = refl
  place_pushed (x ∷ xs) y (suc u) h = place_pushed xs y u h

  pub place_below : (xs : List (Option A)) (u : ℕ) → u < length xs → HasPlace xs u
  place_below [] u h = absurd (let no : ⊥ = omega (arith, h) in no)
  place_below (x ∷ xs) zero h = refl
  place_below (x ∷ xs) (suc u) h = place_below xs u (omega (arith, h))

  set_here : (xs : List (Option A)) (i : ℕ) (o : Option A) → i < length xs → at_id (slice_set xs i o) i ≡ o
  set_here [] i o h = absurd (let no : ⊥ = omega (arith, h) in no)
  set_here (x ∷ xs) zero o h = refl
  set_here (x ∷ xs) (suc i) o h = set_here xs i o (omega (arith, h))

  set_other : (xs : List (Option A)) (i u : ℕ) (o : Option A) → (i ≡ u → ⊥) → at_id (slice_set xs i o) u ≡ at_id xs u
  set_other [] i u o h = refl
  set_other (x ∷ xs) zero zero o h = absurd (h refl)
  set_other (x ∷ xs) zero (suc u) o h = refl
  set_other (x ∷ xs) (suc i) zero o h = refl
  set_other (x ∷ xs) (suc i) (suc u) o h = set_other xs i u o (λ e. h (ap suc e))

  pub set_puts : (xs : List (Option A)) (i : ℕ) (o : Option A) → i < length xs → Puts i o xs (slice_set xs i o)
  set_puts xs i o h u = by_go (nat_eq i u)
      (λ q. rw q (subst (λ (v : ℕ). at_id (slice_set xs i o) v ≡ o) (eqb-true i u q) (set_here xs i o h)))
      (λ q. rw q (set_other xs i u o (eqb-false i u q)))

  pub set_keeps : (xs : List (Option A)) (i : ℕ) (o : Option A) → KeepsPlaces xs (slice_set xs i o)
  set_keeps [] i o u h = h
  set_keeps (x ∷ xs) zero o zero h = refl
  set_keeps (x ∷ xs) zero o (suc u) h = h
  set_keeps (x ∷ xs) (suc i) o zero h = refl
  set_keeps (x ∷ xs) (suc i) o (suc u) h = set_keeps xs i o u h

  -- an id that has a value has a place
  pub place_at : (xs : List (Option A)) (u : ℕ) (x : A) → at_id xs u ≡ Some x → HasPlace xs u
  place_at xs u x e = go (slice_get xs u) e
    where
      go : (o : Option (Option A)) → in_place o ≡ Some x → IsSome o
      go None k = absurd (let bad : ⊥ = cc in bad)
      go (Some y) k = refl

  pub no_place : (xs : List (Option A)) (u : ℕ) → length xs ≤ u → slice_get xs u ≡ None
  no_place [] zero h = refl
  no_place [] (suc u) h = refl
  no_place (x ∷ xs) zero h = absurd (let no : ⊥ = omega (arith, h) in no)
  no_place (x ∷ xs) (suc u) h = no_place xs u (omega (arith, h))

  -- an id that has no place has no value either
  pub none_puts : (t : ℕ) (old new : List (Option A)) → (HasPlace old t → Puts t None old new) → (slice_get old t ≡ None → new ≡ old) → Puts t None old new
  none_puts t old new puts out = go (slice_get old t) refl
    where
      nothing : slice_get old t ≡ None → (u : ℕ) → at_id old u ≡ cond (nat_eq t u) None (at_id old u)
      nothing e u = by_go (nat_eq t u) (λ q. rw q (ap (at_id old) (sym (eqb-true t u q)) ∙ ap in_place e)) (λ q. rw q refl)

      go : (o : Option (Option A)) → slice_get old t ≡ o → Puts t None old new
      go None e = λ u. ap (λ xs. at_id xs u) (out e) ∙ nothing e u
      go (Some x) e = puts (subst (λ p. IsSome p) (sym e) refl)

module _ {A : Type 0} (g : ℕ → A) where
  pub filled_none : IsFilled g [] []
  filled_none = record { places = λ u c. absurd (false≢true c); values = none }
    where
      none : (u : ℕ) → at_id {A = A} [] u ≡ None
      none zero = refl
      none (suc u) = refl

  module _ (ts us : List ℕ) (t : ℕ) (xs ys : List (Option A)) (more : (z : ℕ) → contains us z ≡ cond (eqb t z) true (contains ts z)) where
    -- the value of one id more
    pub filled_next : Puts t (Some (g t)) xs ys → HasPlace ys t → KeepsPlaces xs ys → IsFilled g ts xs → IsFilled g us ys
    filled_next puts has keeps i = record {
      places = λ u c. by_go (nat_eq t u)
          (λ q. subst (λ (v : ℕ). HasPlace ys v) (eqb-true t u q) has)
          (λ q. keeps u (i.places u (sym (more u ∙ ap (λ b. cond b true (contains ts u)) q) ∙ c)));
      values = λ u. by_go (nat_eq t u)
          (λ q. puts u ∙ (ap (λ b. cond b (Some (g t)) (at_id xs u)) q ∙ (ap (λ v. Some (g v)) (eqb-true t u q) ∙ sym (ap (λ b. cond b (Some (g u)) None) (more u ∙ ap (λ b. cond b true (contains ts u)) q)))))
          (λ q. puts u ∙ (ap (λ b. cond b (Some (g t)) (at_id xs u)) q ∙ (i.values u ∙ sym (ap (λ b. cond b (Some (g u)) None) (more u ∙ ap (λ b. cond b true (contains ts u)) q)))));
    }
