-- Ids that move together: what holds while the first ones stand in a new list and the others still in the old one.
use Rattle.std.proofs.Common.{◌≡◌, ◌≢◌, ◌<◌, ◌≤◌, ◌⊎◌, inl, inr, ℕ, zero, suc, ◌+◌, true, false, cond, nat_eq, List, [], ◌∷◌, ◌++◌, map, length, drop, slice_get, Option, Some, None, refl, sym, ap, ◌∙◌, subst, arith, length-append, append_assoc}
use Rattle.std.proofs.lemmas.Bool.{eqb-true, eqb-false, eq-eqb}
use Rattle.std.proofs.lemmas.Option.{same_Some}
use Rattle.ax_marks.specs.Holes.{somes, ArePlaced, IsKept}
use Rattle.ax_marks.proofs.HoleLemmas.{push_keeps, push_last, push_cases}

abbrev pub filled : List ℕ → List (Option ℕ)
filled ids = map (λ id. Some id) ids

-- the first n of xs have been moved into ys
pub record IsMoving (xs ys : List (Option ℕ)) (places : ℕ → Option ℕ) (n : ℕ) : Type 0 where
  pub items : ys ++ filled (somes (drop n xs)) ≡ filled (somes xs)
  pub behind : (id i : ℕ) → slice_get ys i ≡ Some (Some id) → places id ≡ Some i
  pub ahead : (id i : ℕ) → n ≤ i → slice_get xs i ≡ Some (Some id) → places id ≡ Some i
  pub stands : (id i : ℕ) → places id ≡ Some i → (slice_get ys i ≡ Some (Some id)) ⊎ ((n ≤ i) × (slice_get xs i ≡ Some (Some id)))
  pub few : length ys ≤ n

drop-at : {X : Type 0} (xs : List X) (n : ℕ) (x : X) → slice_get xs n ≡ Some x → drop n xs ≡ x ∷ drop (suc n) xs
drop-at [] n x h = absurd (cc)
drop-at (y ∷ xs) zero x h = ap (λ z. z ∷ xs) (same_Some _ _ h)
drop-at (y ∷ xs) (suc n) x h = drop-at xs n x h

drop-past : {X : Type 0} (xs : List X) (n : ℕ) → length xs ≤ n → drop n xs ≡ []
drop-past [] zero h = refl
drop-past [] (suc n) h = refl
drop-past (x ∷ xs) zero h = absurd (omega arith)
drop-past (x ∷ xs) (suc n) h = drop-past xs n (omega (arith, h))

append-none : {X : Type 0} (xs : List X) → xs ++ [] ≡ xs
append-none [] = refl
append-none (x ∷ xs) = ap (λ r. x ∷ r) (append-none xs)

within_of : {X : Type 0} (xs : List X) (i : ℕ) (x : X) → slice_get xs i ≡ Some x → i < length xs
within_of [] i x h = absurd (cc)
within_of (y ∷ xs) zero x h = omega arith
within_of (y ∷ xs) (suc i) x h = omega (arith, within_of xs i x h)

pub moving_start : (xs : List (Option ℕ)) (places : ℕ → Option ℕ) → ArePlaced xs places → IsMoving xs [] places 0
moving_start xs places h = record {
  items = refl;
  behind = λ id i e. absurd (cc);
  ahead = λ id i l e. h.placed id i e;
  stands = λ id i e. inr (omega arith, h.found id i e);
  few = omega arith;
}

pub moving_none : (xs ys : List (Option ℕ)) (places : ℕ → Option ℕ) (n : ℕ) → IsMoving xs ys places n → slice_get xs n ≡ Some None → IsMoving xs ys places (n + 1)
moving_none xs ys places n h hole = record {
  items = ap (λ k. ys ++ filled (somes (drop k xs))) next ∙ sym (ap (λ zs. ys ++ filled (somes zs)) (drop-at xs n None hole)) ∙ h.items;
  behind = h.behind;
  ahead = λ id i l e. h.ahead id i (omega (arith, l)) e;
  stands = λ id i e. elim (h.stands id i e) [
    | inl a ↦ inl a
    | inr b ↦ inr (omega (arith, b.0, other id i b.1), b.1)
  ];
  few = omega (arith, h.few);
}
  where
    next : n + 1 ≡ suc n
    next = omega arith

    other : (id i : ℕ) → slice_get xs i ≡ Some (Some id) → i ≢ n
    other id i e s = let f : slice_get xs n ≡ Some (Some id) = subst (λ k. slice_get xs k ≡ Some (Some id)) s e in cc (f, hole)

module _ (xs ys : List (Option ℕ)) (old new : ℕ → Option ℕ) (n id : ℕ) (h : IsMoving xs ys old n) (here : slice_get xs n ≡ Some (Some id)) (put : (q : ℕ) → new q ≡ cond (nat_eq id q) (Some (length ys)) (old q)) where
  put_here : (q : ℕ) → id ≡ q → new q ≡ Some (length ys)
  put_here q e = put q ∙ ap (λ b. cond b (Some (length ys)) (old q)) (eq-eqb id q e)

  put_other : (q : ℕ) → nat_eq id q ≡ false → new q ≡ old q
  put_other q e = put q ∙ ap (λ b. cond b (Some (length ys)) (old q)) e

  was : old id ≡ Some n
  was = h.ahead id n (omega arith) here

  -- an id that stands elsewhere is another one
  other : (q i : ℕ) → old q ≡ Some i → i ≢ n → nat_eq id q ≡ false
  other q i e apart = elim (nat_eq id q) as (λ b. nat_eq id q ≡ b → b ≡ false) [
    | true ↦ λ s. absurd (apart (same_Some _ _ (sym e ∙ ap old (sym (eqb-true id q s)) ∙ was)))
    | false ↦ λ s. refl
  ] refl

  behind : (q i : ℕ) → slice_get (ys ++ Some id ∷ []) i ≡ Some (Some q) → new q ≡ Some i
  behind q i e = elim (push_cases ys (Some id) i (Some q) e) [
    | inl a ↦
        let stood : old q ≡ Some i = h.behind q i a in
        put_other q (other q i stood (λ s. omega (arith, within_of ys i (Some q) a, h.few, s))) ∙ stood
    | inr b ↦ put_here q (same_Some _ _ b.1) ∙ ap Some (sym b.0)
  ]

  ahead : (q i : ℕ) → n + 1 ≤ i → slice_get xs i ≡ Some (Some q) → new q ≡ Some i
  ahead q i l e =
      let stood : old q ≡ Some i = h.ahead q i (omega (arith, l)) e in
      put_other q (other q i stood (λ s. omega (arith, l, s))) ∙ stood

  stands : (q i : ℕ) → new q ≡ Some i → (slice_get (ys ++ Some id ∷ []) i ≡ Some (Some q)) ⊎ ((n + 1 ≤ i) × (slice_get xs i ≡ Some (Some q)))
  stands q i e = elim (nat_eq id q) as (λ b. nat_eq id q ≡ b → (slice_get (ys ++ Some id ∷ []) i ≡ Some (Some q)) ⊎ ((n + 1 ≤ i) × (slice_get xs i ≡ Some (Some q)))) [
    | true ↦ λ s.
        let same : id ≡ q = eqb-true id q s in
        let last : length ys ≡ i = same_Some _ _ (sym (put_here q same) ∙ e) in
        inl (ap (slice_get (ys ++ Some id ∷ [])) (sym last) ∙ push_last ys (Some id) ∙ ap (λ x. Some (Some x)) same)
    | false ↦ λ s. elim (h.stands q i (sym (put_other q s) ∙ e)) [
      | inl a ↦ inl (push_keeps ys (Some id) i (Some q) a)
      | inr b ↦ inr (omega (arith, b.0, apart q i s b.1), b.1)
    ]
  ] refl
    where
      apart : (p j : ℕ) → nat_eq id p ≡ false → slice_get xs j ≡ Some (Some p) → j ≢ n
      apart p j s f t = eqb-false id p s (same_Some _ _ (same_Some _ _ (sym here ∙ subst (λ k. slice_get xs k ≡ Some (Some p)) t f)))

  pub moving_some : IsMoving xs (ys ++ Some id ∷ []) new (n + 1)
  moving_some = record {
    items =
        append_assoc ys (Some id ∷ []) (filled (somes (drop (n + 1) xs)))
        ∙ ap (λ k. ys ++ Some id ∷ filled (somes (drop k xs))) next
        ∙ sym (ap (λ zs. ys ++ filled (somes zs)) (drop-at xs n (Some id) here)) ∙ h.items;
    behind = behind;
    ahead = ahead;
    stands = stands;
    few = omega (arith, h.few, length-append ys (Some id ∷ []));
  }
    where
      next : n + 1 ≡ suc n
      next = omega arith

pub moving_end : (xs ys : List (Option ℕ)) (places : ℕ → Option ℕ) (n : ℕ) → IsMoving xs ys places n → length xs ≤ n → (ys ≡ filled (somes xs)) × ArePlaced ys places
moving_end xs ys places n h past = (
  sym (append-none ys) ∙ sym (ap (λ zs. ys ++ filled (somes zs)) (drop-past xs n past)) ∙ h.items,
  record {
    found = λ id i e. elim (h.stands id i e) [
      | inl a ↦ a
      | inr b ↦ absurd (omega (arith, past, b.0, within_of xs i (Some id) b.1))
    ];
    placed = h.behind;
  },
)

-- an id that is still to move has a place
pub is_ahead : (xs ys : List (Option ℕ)) (places : ℕ → Option ℕ) (n id : ℕ) → IsMoving xs ys places n → slice_get xs n ≡ Some (Some id) → places id ≡ Some n
is_ahead xs ys places n id h here = h.ahead id n (omega arith) here

pub somes-filled : (ids : List ℕ) → somes (filled ids) ≡ ids
somes-filled [] = refl
somes-filled (id ∷ ids) = ap (λ r. id ∷ r) (somes-filled ids)

no_hole : (ids : List ℕ) → slice_get (filled ids) 0 ≢ Some None
no_hole [] e = cc
no_hole (id ∷ ids) e = cc

-- once all ids have moved, the list is kept as before
pub kept_together : (xs zs ys : List (Option ℕ)) (old new : ℕ → Option ℕ) (front count n : ℕ) → IsKept xs old front count → zs ≡ xs → ys ≡ filled (somes zs) → ArePlaced ys new → n ≡ count → IsKept ys new 0 n
kept_together xs zs ys old new front count n kept same is placed counts = record {
  found = placed.found;
  placed = placed.placed;
  passed = λ k l. absurd (omega (arith, l));
  first = λ e. no_hole (somes zs) (ap (λ ws. slice_get ws 0) (sym is) ∙ e);
  counted = counts ∙ kept.counted ∙ sym (ap length (ap somes is ∙ somes-filled (somes zs) ∙ ap somes same));
}
