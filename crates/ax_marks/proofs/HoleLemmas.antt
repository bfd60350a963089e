-- Lists with holes.
use Rattle.std.proofs.Common.{◌≡◌, ◌≢◌, ◌<◌, ◌≤◌, ◌⊎◌, inl, inr, ℕ, zero, suc, ◌+◌, Bool, true, false, cond, not, ◌||◌, nat_eq, nat_lt, List, [], ◌∷◌, ◌++◌, length, slice_get, slice_set, Option, Some, None, is_some, option_and_then, refl, sym, ap, ◌∙◌, subst, arith, length-append}
use borrow.Author.Tests.{ltb-true, ltb-false}
use Rattle.std.proofs.lemmas.Bool.{eqb-true, eqb-false, eq-eqb, ne_eqb}
use Rattle.std.proofs.lemmas.Option.{same_Some}
use Rattle.ax_marks.specs.Holes.{somes, IsKept}
use Rattle.std.specs.List.{list_any}
use Rattle.ax_marks.specs.MarkList.{has, without, are_distinct}

-- ---- a list read after a push or a write
module _ {X : Type 0} where
  pub push_keeps : (xs : List X) (x : X) (i : ℕ) (y : X) → slice_get xs i ≡ Some y → slice_get (xs ++ x ∷ []) i ≡ Some y
  push_keeps [] x i y h = absurd (cc)
  push_keeps (z ∷ xs) x zero y h = h
  push_keeps (z ∷ xs) x (suc i) y h = push_keeps xs x i y h

  pub push_last : (xs : List X) (x : X) → slice_get (xs ++ x ∷ []) (length xs) ≡ Some x
  push_last [] x = refl
  push_last (z ∷ xs) x = push_last xs x

  pub push_cases : (xs : List X) (x : X) (i : ℕ) (y : X) → slice_get (xs ++ x ∷ []) i ≡ Some y → (slice_get xs i ≡ Some y) ⊎ ((i ≡ length xs) × (x ≡ y))
  push_cases [] x zero y h = inr (refl, same_Some _ _ h)
  push_cases [] x (suc i) y h = absurd (cc)
  push_cases (z ∷ xs) x zero y h = inl h
  push_cases (z ∷ xs) x (suc i) y h = elim (push_cases xs x i y h) [ inl k ↦ inl k | inr k ↦ inr (ap suc k.0, k.1) ]

  set_other : (xs : List X) (i : ℕ) (v : X) (j : ℕ) → j ≢ i → slice_get (slice_set xs i v) j ≡ slice_get xs j
  set_other [] i v j h = refl
  set_other (x ∷ xs) zero v zero h = absurd (h refl)
  set_other (x ∷ xs) zero v (suc j) h = refl
  set_other (x ∷ xs) (suc i) v zero h = refl
  set_other (x ∷ xs) (suc i) v (suc j) h = set_other xs i v j (λ e. h (ap suc e))

  set_here : (xs : List X) (i : ℕ) (v y : X) → slice_get xs i ≡ Some y → slice_get (slice_set xs i v) i ≡ Some v
  set_here [] i v y h = absurd (cc)
  set_here (x ∷ xs) zero v y h = refl
  set_here (x ∷ xs) (suc i) v y h = set_here xs i v y h

-- ---- the ids
pub somes-append : (xs ys : List (Option ℕ)) → somes (xs ++ ys) ≡ somes xs ++ somes ys
somes-append [] ys = refl
somes-append (None ∷ xs) ys = somes-append xs ys
somes-append (Some id ∷ xs) ys = ap (λ r. id ∷ r) (somes-append xs ys)

or_right : (a b : Bool) → b ≡ true → (a || b) ≡ true
or_right true b h = refl
or_right false b h = h

-- what stands at a place is in the list
has-at : (xs : List (Option ℕ)) (id i : ℕ) → slice_get xs i ≡ Some (Some id) → has (somes xs) id ≡ true
has-at [] id i h = absurd (cc)
has-at (None ∷ xs) id zero h = absurd (cc)
has-at (None ∷ xs) id (suc i) h = has-at xs id i h
has-at (Some x ∷ xs) id zero h = let e : x ≡ id = same_Some _ _ (same_Some _ _ h) in ap (λ b. b || has (somes xs) id) (eq-eqb x id e)
has-at (Some x ∷ xs) id (suc i) h = or_right (nat_eq x id) (has (somes xs) id) (has-at xs id i h)

-- what stands at no place isn't
has-nowhere : (xs : List (Option ℕ)) (id : ℕ) → ((i : ℕ) → slice_get xs i ≢ Some (Some id)) → has (somes xs) id ≡ false
has-nowhere [] id h = refl
has-nowhere (None ∷ xs) id h = has-nowhere xs id (λ i. h (suc i))
has-nowhere (Some x ∷ xs) id h = ap (λ b. b || has (somes xs) id) (ne_eqb x id (λ e. h 0 (ap (λ y. Some (Some y)) e))) ∙ has-nowhere xs id (λ i. h (suc i))

-- an id that isn't there leaves the list as it is
pub without-absent : (ids : List ℕ) (id : ℕ) → has ids id ≡ false → without ids id ≡ ids
without-absent [] id h = refl
without-absent (x ∷ ids) id h = go (nat_eq x id) refl (without-absent ids id)
  where
    go : (b : Bool) → nat_eq x id ≡ b → (has ids id ≡ false → without ids id ≡ ids) → without (x ∷ ids) id ≡ x ∷ ids
    go true e rest = absurd (let t : has (x ∷ ids) id ≡ true = ap (λ b. b || has ids id) e in cc (t, h))
    go false e rest = ap (λ b. cond (not b) (x ∷ without ids id) (without ids id)) e ∙ ap (λ r. x ∷ r) (rest (sym (ap (λ b. b || has ids id) e) ∙ h))

-- a hole in place of an id that stood nowhere else
pub somes-set : (xs : List (Option ℕ)) (id i : ℕ) → slice_get xs i ≡ Some (Some id) → ((j : ℕ) → slice_get xs j ≡ Some (Some id) → j ≡ i)
    → somes (slice_set xs i None) ≡ without (somes xs) id
somes-set [] id i h u = absurd (cc)
somes-set (x ∷ xs) id zero h u =
    let e : x ≡ Some id = same_Some _ _ h in
    let nowhere : has (somes xs) id ≡ false = has-nowhere xs id (λ j g. let f : suc j ≡ 0 = u (suc j) g in absurd (omega arith)) in
    sym (ap (λ y. without (somes (y ∷ xs)) id) e ∙ ap (λ b. cond (not b) (id ∷ without (somes xs) id) (without (somes xs) id)) (eq-eqb id id refl) ∙ without-absent (somes xs) id nowhere)
somes-set (None ∷ xs) id (suc i) h u = somes-set xs id i h (λ j g. let f : suc j ≡ suc i = u (suc j) g in omega arith)
somes-set (Some x ∷ xs) id (suc i) h u =
    let rest : somes (slice_set xs i None) ≡ without (somes xs) id = somes-set xs id i h (λ j g. let f : suc j ≡ suc i = u (suc j) g in omega arith) in
    let other : nat_eq x id ≡ false = ne_eqb x id (λ e. let f : 0 ≡ suc i = u 0 (ap (λ y. Some (Some y)) e) in absurd (omega arith)) in
    ap (λ r. x ∷ r) rest ∙ sym (ap (λ b. cond (not b) (x ∷ without (somes xs) id) (without (somes xs) id)) other)

length-somes-set : (xs : List (Option ℕ)) (id i : ℕ) → slice_get xs i ≡ Some (Some id) → length (somes (slice_set xs i None)) + 1 ≡ length (somes xs)
length-somes-set [] id i h = absurd (cc)
length-somes-set (x ∷ xs) id zero h = let e : x ≡ Some id = same_Some _ _ h in let f : length (somes (x ∷ xs)) ≡ length (id ∷ somes xs) = ap (λ y. length (somes (y ∷ xs))) e in omega arith
length-somes-set (None ∷ xs) id (suc i) h = length-somes-set xs id i h
length-somes-set (Some x ∷ xs) id (suc i) h = let r = length-somes-set xs id i h in omega (arith, r)

-- where only holes were passed, the first id stands at the front
pub first_is : (xs : List (Option ℕ)) (front : ℕ) → ((k : ℕ) → k < front → slice_get xs k ≡ Some None) → slice_get xs front ≢ Some None
    → slice_get (somes xs) 0 ≡ option_and_then (λ o. o) (slice_get xs front)
first_is [] front h n = refl
first_is (None ∷ xs) zero h n = absurd (n refl)
first_is (Some x ∷ xs) zero h n = refl
first_is (None ∷ xs) (suc front) h n = first_is xs front (λ k l. h (suc k) (omega (arith, l))) n
first_is (Some x ∷ xs) (suc front) h n = let e : Some (Some x) ≡ Some None = h 0 (omega arith) in absurd (cc)

-- ---- the record
pub has_is : (xs : List (Option ℕ)) (places : ℕ → Option ℕ) (front count id : ℕ) → IsKept xs places front count → has (somes xs) id ≡ is_some (places id)
has_is xs places front count id kept = go (places id) refl
  where
    go : (o : Option ℕ) → places id ≡ o → has (somes xs) id ≡ is_some (places id)
    go None e = has-nowhere xs id (λ i g. let f : places id ≡ Some i = kept.placed id i g in cc (e, f)) ∙ sym (ap is_some e)
    go (Some i) e = has-at xs id i (kept.found id i e) ∙ sym (ap is_some e)

module _ (xs : List (Option ℕ)) (old new : ℕ → Option ℕ) (id : ℕ) where
  pub kept_added : (front count : ℕ) → IsKept xs old front count → old id ≡ None → ((q : ℕ) → new q ≡ cond (nat_eq id q) (Some (length xs)) (old q))
      → IsKept (xs ++ Some id ∷ []) new front (count + 1)
  kept_added front count kept none put = record {
    found = λ q i e. found q i e (nat_eq id q) refl;
    placed = λ q i e. placed q i e (nat_eq id q) refl;
    passed = λ k l. push_keeps xs (Some id) k None (kept.passed k l);
    first = λ e. elim (push_cases xs (Some id) front None e) [ inl h ↦ kept.first h | inr h ↦ cc (h.1) ];
    counted = let l : length (somes (xs ++ Some id ∷ [])) ≡ length (somes xs ++ id ∷ []) = ap length (somes-append xs (Some id ∷ [])) in omega (arith, kept.counted, l, length-append (somes xs) (id ∷ []));
  }
    where
      found : (q i : ℕ) → new q ≡ Some i → (b : Bool) → nat_eq id q ≡ b → slice_get (xs ++ Some id ∷ []) i ≡ Some (Some q)
      found q i e true same =
          let s : id ≡ q = eqb-true id q same in
          let l : length xs ≡ i = same_Some _ _ (sym (put q ∙ ap (λ b. cond b (Some (length xs)) (old q)) same) ∙ e) in
          ap (slice_get (xs ++ Some id ∷ [])) (sym l) ∙ push_last xs (Some id) ∙ ap (λ y. Some (Some y)) s
      found q i e false other = push_keeps xs (Some id) i (Some q) (kept.found q i (sym (put q ∙ ap (λ b. cond b (Some (length xs)) (old q)) other) ∙ e))

      placed : (q i : ℕ) → slice_get (xs ++ Some id ∷ []) i ≡ Some (Some q) → (b : Bool) → nat_eq id q ≡ b → new q ≡ Some i
      placed q i e true same =
          let s : id ≡ q = eqb-true id q same in
          put q ∙ ap (λ b. cond b (Some (length xs)) (old q)) same ∙ elim (push_cases xs (Some id) i (Some q) e) [
            | inl h ↦ absurd (let f : old id ≡ Some i = ap old s ∙ kept.placed q i h in cc (f, none))
            | inr h ↦ ap Some (sym h.0)
          ]
      placed q i e false other =
          put q ∙ ap (λ b. cond b (Some (length xs)) (old q)) other ∙ elim (push_cases xs (Some id) i (Some q) e) [
            | inl h ↦ kept.placed q i h
            | inr h ↦ absurd (eqb-false id q other (same_Some _ _ h.1))
          ]

  pub kept_removed : (i front further count : ℕ) → IsKept xs old front (count + 1) → old id ≡ Some i → ((q : ℕ) → new q ≡ cond (nat_eq id q) None (old q))
      → ((k : ℕ) → front ≤ k → k < further → slice_get (slice_set xs i None) k ≡ Some None) → slice_get (slice_set xs i None) further ≢ Some None
      → IsKept (slice_set xs i None) new further count
  kept_removed i front further count kept there put passes stops = record {
    found = λ q j e. found q j e (nat_eq id q) refl;
    placed = λ q j e. placed q j e (nat_eq j i) refl (nat_eq id q) refl;
    passed = λ k l. passed k l (nat_lt k front) refl (nat_eq k i) refl;
    first = stops;
    counted = omega (arith, kept.counted, length-somes-set xs id i here);
  }
    where
      here : slice_get xs i ≡ Some (Some id)
      here = kept.found id i there

      found : (q j : ℕ) → new q ≡ Some j → (b : Bool) → nat_eq id q ≡ b → slice_get (slice_set xs i None) j ≡ Some (Some q)
      found q j e true same = absurd (let f : new q ≡ None = put q ∙ ap (λ b. cond b None (old q)) same in cc (e, f))
      found q j e false other =
          let h : slice_get xs j ≡ Some (Some q) = kept.found q j (sym (put q ∙ ap (λ b. cond b None (old q)) other) ∙ e) in
          set_other xs i None j (λ s. eqb-false id q other (same_Some _ _ (same_Some _ _ (sym here ∙ ap (slice_get xs) (sym s) ∙ h)))) ∙ h

      placed_old : (q j : ℕ) → slice_get xs j ≡ Some (Some q) → (b : Bool) → nat_eq id q ≡ b → j ≢ i → cond (nat_eq id q) None (old q) ≡ Some j
      placed_old q j h true same apart =
          let s : id ≡ q = eqb-true id q same in
          let f : Some i ≡ Some j = sym there ∙ ap old s ∙ kept.placed q j h in
          absurd (apart (sym (same_Some _ _ f)))
      placed_old q j h false other apart = ap (λ b. cond b None (old q)) other ∙ kept.placed q j h

      placed : (q j : ℕ) → slice_get (slice_set xs i None) j ≡ Some (Some q) → (a : Bool) → nat_eq j i ≡ a → (b : Bool) → nat_eq id q ≡ b → new q ≡ Some j
      placed q j e true at b eb =
          let s : j ≡ i = eqb-true j i at in
          let f : slice_get (slice_set xs i None) j ≡ Some None = ap (slice_get (slice_set xs i None)) s ∙ set_here xs i None (Some id) here in
          absurd (cc (e, f))
      placed q j e false apart b eb =
          let h : slice_get xs j ≡ Some (Some q) = sym (set_other xs i None j (eqb-false j i apart)) ∙ e in
          put q ∙ placed_old q j h b eb (eqb-false j i apart)

      passed : (k : ℕ) → k < further → (a : Bool) → nat_lt k front ≡ a → (b : Bool) → nat_eq k i ≡ b → slice_get (slice_set xs i None) k ≡ Some None
      passed k l true before true at = ap (slice_get (slice_set xs i None)) (eqb-true k i at) ∙ set_here xs i None (Some id) here
      passed k l true before false apart = set_other xs i None k (eqb-false k i apart) ∙ kept.passed k (ltb-true k front before)
      passed k l false after b eb = passes k (ltb-false k front after) l

-- ---- as the calls need them
pub none_from : (o : Option ℕ) → is_some o ≡ false → o ≡ None
none_from None h = refl
none_from (Some x) h = absurd (cc)

pub kept_added_by : (xs ys : List (Option ℕ)) (old new : ℕ → Option ℕ) (id len front count n : ℕ) → IsKept xs old front count → old id ≡ None → len ≡ length xs
    → ((q : ℕ) → new q ≡ cond (nat_eq id q) (Some len) (old q)) → ys ≡ xs ++ Some id ∷ [] → n ≡ count + 1 → IsKept ys new front n
kept_added_by xs ys old new id len front count n kept none at put more counts =
    let added : IsKept (xs ++ Some id ∷ []) new front (count + 1) = kept_added xs old new id front count kept none (λ q. put q ∙ ap (λ l. cond (nat_eq id q) (Some l) (old q)) at) in
    subst (λ zs. IsKept zs new front n) (sym more) (subst (λ m. IsKept (xs ++ Some id ∷ []) new front m) (sym counts) added)

pub kept_removed_by : (xs zs : List (Option ℕ)) (old new : ℕ → Option ℕ) (id i front further count n : ℕ) → IsKept xs old front n → n ≡ count + 1 → Some i ≡ old id
    → ((q : ℕ) → new q ≡ cond (nat_eq id q) None (old q)) → zs ≡ slice_set xs i None → ((k : ℕ) → front ≤ k → k < further → slice_get zs k ≡ Some None) → slice_get zs further ≢ Some None
    → IsKept (slice_set xs i None) new further count
kept_removed_by xs zs old new id i front further count n kept counts there put is passes stops =
    kept_removed xs old new id i front further count (subst (λ m. IsKept xs old front m) counts kept) (sym there) put
    (λ k a b. ap (λ ys. slice_get ys k) (sym is) ∙ passes k a b) (λ e. stops (ap (λ ys. slice_get ys further) is ∙ e))

pub removed_is : (xs : List (Option ℕ)) (places : ℕ → Option ℕ) (front count id i : ℕ) → IsKept xs places front count → Some i ≡ places id
    → somes (slice_set xs i None) ≡ without (somes xs) id
removed_is xs places front count id i kept there =
    somes-set xs id i (kept.found id i (sym there)) (λ j h. same_Some _ _ (sym (kept.placed id j h) ∙ sym there))

-- ---- no id stands twice
none-any : (test : ℕ → Bool) (xs : List (Option ℕ)) → ((i x : ℕ) → slice_get xs i ≡ Some (Some x) → test x ≡ false) → list_any test (somes xs) ≡ false
none-any test [] h = refl
none-any test (None ∷ xs) h = none-any test xs (λ i x e. h (suc i) x e)
none-any test (Some x ∷ xs) h = ap (λ b. b || list_any test (somes xs)) (h 0 x refl) ∙ none-any test xs (λ i y e. h (suc i) y e)

pub are_distinct-somes : (xs : List (Option ℕ)) → ((i j x : ℕ) → slice_get xs i ≡ Some (Some x) → slice_get xs j ≡ Some (Some x) → i ≡ j) → are_distinct (somes xs) ≡ true
are_distinct-somes [] u = refl
are_distinct-somes (None ∷ xs) u = are_distinct-somes xs (λ i j x a b. let e : suc i ≡ suc j = u (suc i) (suc j) x a b in omega arith)
are_distinct-somes (Some x ∷ xs) u =
    let alone : has (somes xs) x ≡ false = none-any (λ other. nat_eq other x) xs (λ i y a. ne_eqb y x (λ e. let f : suc i ≡ 0 = u (suc i) 0 y a (ap (λ z. Some (Some z)) (sym e)) in absurd (omega arith))) in
    ap (λ b. cond (not b) (are_distinct (somes xs)) false) alone ∙ are_distinct-somes xs (λ i j z a b. let e : suc i ≡ suc j = u (suc i) (suc j) z a b in omega arith)

pub kept-are_distinct : (xs : List (Option ℕ)) (places : ℕ → Option ℕ) (front count : ℕ) → IsKept xs places front count → are_distinct (somes xs) ≡ true
kept-are_distinct xs places front count kept = are_distinct-somes xs (λ i j x a b. same_Some _ _ (sym (kept.placed x i a) ∙ kept.placed x j b))

-- ---- where no id is left
nil_from : (ids : List ℕ) → 0 ≡ length ids → ids ≡ []
nil_from [] h = refl
nil_from (x ∷ ids) h = absurd (omega arith)

pub somes-none : (xs : List (Option ℕ)) (places : ℕ → Option ℕ) (front count : ℕ) → IsKept xs places front count → count ≡ 0 → somes xs ≡ []
somes-none xs places front count kept none = nil_from (somes xs) (sym none ∙ kept.counted)

pub kept_emptied : (xs ys : List (Option ℕ)) (places : ℕ → Option ℕ) (front count : ℕ) → IsKept xs places front count → count ≡ 0 → ys ≡ [] → IsKept ys places 0 count
kept_emptied xs ys places front count kept none nil = subst (λ zs. IsKept zs places 0 count) (sym nil) (record {
  found = λ id i e.
      let gone : has (somes xs) id ≡ false = ap (λ ids. has ids id) (somes-none xs places front count kept none) in
      let here : has (somes xs) id ≡ true = has-at xs id i (kept.found id i e) in
      cc (gone, here);
  placed = λ id i e. cc (e);
  passed = λ k l. absurd (omega (arith, l));
  first = λ e. cc (e);
  counted = none;
})
