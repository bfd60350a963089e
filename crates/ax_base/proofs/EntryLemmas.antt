-- Finite maps as lists of entries: what a map has at a key after a change, and the place where a key stands or would stand.
use Rattle.std.proofs.Common.{◌≡◌, ℕ, suc, ◌+◌, ◌<◌, ◌≤◌, Bool, true, false, cond, not, ◌&&◌, ◌==◌, nat_lt, Less, Equal, Greater, T, List, [], ◌∷◌, Option, Some, None, is_some, insert, remove, slice_get, slice_set, refl, sym, ap, subst, ◌∙◌, arith}
use Rattle.std.specs.List.{prefix_len}
use Rattle.std.specs.declared.cmp.Ordering.{Ordering}
use Rattle.std.specs.Ordering.{nat_cmp, is_eq, is_lt}
use Rattle.std.specs.Cmp.{nat_cmp_is, nat_cmp_total, unsigned_tied}
use Rattle.std.specs.FinMap.{nat_cmp-IsAntisymmetric}
use Rattle.std.specs.FinMap.Entries.{find, put, by_order, below_all, is_sorted-put, is_sorted-where_key, find-put, find-where_key, same_entries}
use Rattle.std.proofs.lemmas.Bool.{ltb-true, ltb-false, eqb-true, eqb-false, eq-eqb, ne_eqb, and_parts}
use Rattle.ax_base.specs.Entries.{IsMap, without, has_key, value_at}

less : (k x : ℕ) → k < x → nat_cmp k x ≡ Less
less k x l = sym (nat_cmp_is k x Less l)

equal : (k x : ℕ) → k ≡ x → nat_cmp k x ≡ Equal
equal k x e = sym (nat_cmp_is k x Equal e)

greater : (k x : ℕ) → x < k → nat_cmp k x ≡ Greater
greater k x l = sym (nat_cmp_is k x Greater l)

eq-sym : (x y : ℕ) → (x == y) ≡ (y == x)
eq-sym x y = elim (x == y) as (λ b. (x == y) ≡ b → b ≡ (y == x)) [
  | true ↦ λ e. sym (eq-eqb y x (sym (eqb-true x y e)))
  | false ↦ λ e. sym (ne_eqb y x (λ f. eqb-false x y e (sym f)))
] refl

true_is_not_false : false ≡ true → ⊥
true_is_not_false h = cc

pub as_T : (b : Bool) → b ≡ true → T b
as_T b h = subst T (sym h) tt

pub of_T : (b : Bool) → T b → b ≡ true
of_T true h = refl
of_T false h = absurd h

both : (a b : Bool) → T a → T b → T (a && b)
both true b p q = q
both false b p q = p

first : (a b : Bool) → T (a && b) → T a
first true b p = tt
first false b p = p

second : (a b : Bool) → T (a && b) → T b
second true b p = p
second false b p = absurd p

-- the second number is neither below the first nor the same
next : (k x : ℕ) → nat_lt x k ≡ false → (x == k) ≡ false → k < x
next k x b e = let l : k ≤ x = ltb-false x k b in omega (arith, l, eqb-false x k e)

of_lt : (k x : ℕ) → k < x → T (is_lt (nat_cmp k x))
of_lt k x l = subst (λ r. T (is_lt r)) (sym (less k x l)) tt

lt_of : (k x : ℕ) → T (is_lt (nat_cmp k x)) → k < x
lt_of k x h =
    elim (nat_lt k x) as (λ b. nat_lt k x ≡ b → T (is_lt (cond b Less (cond (k == x) Equal Greater))) → k < x) [
      | true ↦ λ b _. ltb-true k x b
      | false ↦ λ b. elim (k == x) as (λ t. T (is_lt (cond t Equal Greater)) → k < x) [ true ↦ λ i. absurd i | false ↦ λ i. absurd i ]
    ] refl h

module _ {X : Type 0} where
  pub find-put-nat : (q k : ℕ) (v : X) (es : List (ℕ × X)) → find nat_cmp q (put nat_cmp k v es) ≡ cond (q == k) (Some v) (find nat_cmp q es)
  find-put-nat q k v es = find-put nat_cmp nat_cmp_total q k v es ∙ ap (λ b. cond b (Some v) (find nat_cmp q es)) (unsigned_tied q k)

  pub find-without : (q k : ℕ) (es : List (ℕ × X)) → find nat_cmp q (without k es) ≡ cond (q == k) None (find nat_cmp q es)
  find-without q k es =
      find-where_key nat_cmp (λ x. not (x == k)) q (λ x t. ap (λ y. not (y == k)) (sym (nat_cmp-IsAntisymmetric q x t))) es
      ∙ elim (q == k) as (λ b. cond (not b) (find nat_cmp q es) None ≡ cond b None (find nat_cmp q es)) [ true ↦ refl | false ↦ refl ]

  pub IsMap-put : (k : ℕ) (v : X) (es : List (ℕ × X)) → IsMap es → IsMap (put nat_cmp k v es)
  IsMap-put k v es h = of_T _ (is_sorted-put nat_cmp nat_cmp_total k v es (as_T _ h))

  pub IsMap-without : (k : ℕ) (es : List (ℕ × X)) → IsMap es → IsMap (without k es)
  IsMap-without k es h = of_T _ (is_sorted-where_key nat_cmp (λ x. not (x == k)) es (as_T _ h))

  -- maps that answer alike are the same
  pub same_map : (es fs : List (ℕ × X)) → IsMap es → IsMap fs → ((q : ℕ) → find nat_cmp q es ≡ find nat_cmp q fs) → es ≡ fs
  same_map es fs g h alike = same_entries nat_cmp nat_cmp_total nat_cmp-IsAntisymmetric es fs (as_T _ g) (as_T _ h) alike

  -- how many keys are below this one
  abbrev pub place : ℕ → List (ℕ × X) → ℕ
  place k [] = 0
  place k (e ∷ es) = cond (nat_lt e.0 k) (suc (place k es)) 0

  pub place_is : (k : ℕ) (es : List (ℕ × X)) → prefix_len (λ e. nat_lt e.0 k) es ≡ place k es
  place_is k [] = refl
  place_is k (e ∷ es) =
      elim (nat_lt e.0 k) as (λ b. cond b (1 + prefix_len (λ f. nat_lt f.0 k) es) 0 ≡ cond b (suc (place k es)) 0) [
        | true ↦ omega (arith, place_is k es)
        | false ↦ refl
      ]

  place_step : (k : ℕ) (e : ℕ × X) (es : List (ℕ × X)) (b : Bool) → nat_lt e.0 k ≡ b → place k (e ∷ es) ≡ cond b (suc (place k es)) 0
  place_step k e es b h = ap (λ t. cond t (suc (place k es)) 0) h

  put_step : (k : ℕ) (v : X) (e : ℕ × X) (es : List (ℕ × X)) (r : Ordering) → nat_cmp k e.0 ≡ r → put nat_cmp k v (e ∷ es) ≡ by_order r ((k, v) ∷ e ∷ es) ((e.0, v) ∷ es) (e ∷ put nat_cmp k v es)
  put_step k v e es r h = ap (λ o. by_order o ((k, v) ∷ e ∷ es) ((e.0, v) ∷ es) (e ∷ put nat_cmp k v es)) h

  -- the entry of a key that is there stands at its place
  pub put-there : (k : ℕ) (v : X) (es : List (ℕ × X)) → has_key k (slice_get es (place k es)) ≡ true → put nat_cmp k v es ≡ slice_set es (place k es) (k, v)
  put-there k v [] h = absurd (true_is_not_false h)
  put-there k v (e ∷ es) h =
      elim (nat_lt e.0 k) as (λ b. nat_lt e.0 k ≡ b → has_key k (slice_get (e ∷ es) (cond b (suc (place k es)) 0)) ≡ true → put nat_cmp k v (e ∷ es) ≡ slice_set (e ∷ es) (cond b (suc (place k es)) 0) (k, v)) [
        | true ↦ λ b i. put_step k v e es Greater (greater k e.0 (ltb-true e.0 k b)) ∙ ap (λ r. e ∷ r) (put-there k v es i)
        | false ↦ λ b i. let t : e.0 ≡ k = eqb-true e.0 k i in put_step k v e es Equal (equal k e.0 (sym t)) ∙ ap (λ x. (x, v) ∷ es) t
      ] refl h

  -- and that of another key goes there
  pub put-absent : (k : ℕ) (v : X) (es : List (ℕ × X)) → has_key k (slice_get es (place k es)) ≡ false → put nat_cmp k v es ≡ insert es (place k es) (k, v)
  put-absent k v [] h = refl
  put-absent k v (e ∷ es) h =
      elim (nat_lt e.0 k) as (λ b. nat_lt e.0 k ≡ b → has_key k (slice_get (e ∷ es) (cond b (suc (place k es)) 0)) ≡ false → put nat_cmp k v (e ∷ es) ≡ insert (e ∷ es) (cond b (suc (place k es)) 0) (k, v)) [
        | true ↦ λ b i. put_step k v e es Greater (greater k e.0 (ltb-true e.0 k b)) ∙ ap (λ r. e ∷ r) (put-absent k v es i)
        | false ↦ λ b i. put_step k v e es Less (less k e.0 (next k e.0 b i))
      ] refl h

  -- all keys are above k
  abbrev all_above : ℕ → List (ℕ × X) → Type 0
  all_above k es = T (below_all nat_cmp k es)

  above : (k x : ℕ) (es : List (ℕ × X)) → k < x → all_above x es → all_above k es
  above k x [] l h = tt
  above k x (e ∷ es) l h =
      let m : x < e.0 = lt_of x e.0 (first _ _ h) in both _ _ (of_lt k e.0 (omega (arith, l, m))) (above k x es l (second _ _ h))

  without-above : (k : ℕ) (es : List (ℕ × X)) → all_above k es → without k es ≡ es
  without-above k [] h = refl
  without-above k (e ∷ es) h =
      let m : k < e.0 = lt_of k e.0 (first _ _ h) in
      ap (λ b. cond (not b) (e ∷ without k es) (without k es)) (ne_eqb e.0 k (λ x. omega (arith, x, m))) ∙ ap (λ r. e ∷ r) (without-above k es (second _ _ h))

  find-above : (k : ℕ) (es : List (ℕ × X)) → all_above k es → find nat_cmp k es ≡ None
  find-above k [] h = refl
  find-above k (e ∷ es) h =
      ap (λ r. cond (is_eq r) (Some e.1) (find nat_cmp k es)) (less k e.0 (lt_of k e.0 (first _ _ h))) ∙ find-above k es (second _ _ h)

  pub without-there : (k : ℕ) (es : List (ℕ × X)) → IsMap es → has_key k (slice_get es (place k es)) ≡ true → without k es ≡ remove es (place k es)
  without-there k [] m h = absurd (true_is_not_false h)
  without-there k (e ∷ es) m h =
      let sorted = and_parts _ _ m in
      elim (nat_lt e.0 k) as (λ b. nat_lt e.0 k ≡ b → has_key k (slice_get (e ∷ es) (cond b (suc (place k es)) 0)) ≡ true → without k (e ∷ es) ≡ remove (e ∷ es) (cond b (suc (place k es)) 0)) [
        | true ↦ λ b i.
            let l : e.0 < k = ltb-true e.0 k b in
            ap (λ t. cond (not t) (e ∷ without k es) (without k es)) (ne_eqb e.0 k (λ x. omega (arith, x, l))) ∙ ap (λ r. e ∷ r) (without-there k es sorted.1 i)
        | false ↦ λ b i.
            ap (λ t. cond (not t) (e ∷ without k es) (without k es)) i
            ∙ without-above k es (subst (λ x. all_above x es) (eqb-true e.0 k i) (as_T _ sorted.0))
      ] refl h

  pub without-absent : (k : ℕ) (es : List (ℕ × X)) → IsMap es → has_key k (slice_get es (place k es)) ≡ false → without k es ≡ es
  without-absent k [] m h = refl
  without-absent k (e ∷ es) m h =
      let sorted = and_parts _ _ m in
      elim (nat_lt e.0 k) as (λ b. nat_lt e.0 k ≡ b → has_key k (slice_get (e ∷ es) (cond b (suc (place k es)) 0)) ≡ false → without k (e ∷ es) ≡ e ∷ es) [
        | true ↦ λ b i.
            let l : e.0 < k = ltb-true e.0 k b in
            ap (λ t. cond (not t) (e ∷ without k es) (without k es)) (ne_eqb e.0 k (λ x. omega (arith, x, l))) ∙ ap (λ r. e ∷ r) (without-absent k es sorted.1 i)
        | false ↦ λ b i.
            let l : k < e.0 = next k e.0 b i in
            without-above k (e ∷ es) (both _ _ (of_lt k e.0 l) (above k e.0 es l (as_T _ sorted.0)))
      ] refl h

  pub find-place : (k : ℕ) (es : List (ℕ × X)) → IsMap es → find nat_cmp k es ≡ value_at k (slice_get es (place k es))
  find-place k [] m = refl
  find-place k (e ∷ es) m =
      let sorted = and_parts _ _ m in
      elim (nat_lt e.0 k) as (λ b. nat_lt e.0 k ≡ b → find nat_cmp k (e ∷ es) ≡ value_at k (slice_get (e ∷ es) (cond b (suc (place k es)) 0))) [
        | true ↦ λ b.
            ap (λ r. cond (is_eq r) (Some e.1) (find nat_cmp k es)) (greater k e.0 (ltb-true e.0 k b)) ∙ find-place k es sorted.1
        | false ↦ λ b. elim (e.0 == k) as (λ t. (e.0 == k) ≡ t → find nat_cmp k (e ∷ es) ≡ cond t (Some e.1) None) [
          | true ↦ λ t. ap (λ r. cond (is_eq r) (Some e.1) (find nat_cmp k es)) (equal k e.0 (sym (eqb-true e.0 k t)))
          | false ↦ λ t.
              let l : k < e.0 = next k e.0 b t in find-above k (e ∷ es) (both _ _ (of_lt k e.0 l) (above k e.0 es l (as_T _ sorted.0)))
        ] refl
      ] refl

  is_some-value_at : (k : ℕ) (o : Option (ℕ × X)) → is_some (value_at k o) ≡ has_key k o
  is_some-value_at k None = refl
  is_some-value_at k (Some e) = elim (e.0 == k) as (λ t. is_some (cond t (Some e.1) None) ≡ t) [ true ↦ refl | false ↦ refl ]

  pub is_some-find : (k : ℕ) (es : List (ℕ × X)) → IsMap es → is_some (find nat_cmp k es) ≡ has_key k (slice_get es (place k es))
  is_some-find k es m = ap is_some (find-place k es m) ∙ is_some-value_at k (slice_get es (place k es))
