-- The queries of an order at one length of the history: each reader's looks there, in its list's order.
use Rattle.std.proofs.Common.{ℕ, zero, suc, ◌+◌, ◌≡◌, ◌≤◌, ◌<◌, ◌⊎◌, inl, inr, ◌==◌, Bool, true, false, ltb, eqb, List, [], ◌∷◌, ◌++◌, length, flat_map, replicate, slice_get, refl, sym, ap, ◌∙◌, subst, Some, arith}
use Rattle.std.specs.Prelude.{nat_lt}
use Rattle.std.specs.List.{enumerate_from}
use Rattle.std.proofs.lemmas.Bool.{ltb-true, ltb-false}
use Rattle.std.proofs.lemmas.Bool.Decides.{eqb_tells}
use Rattle.ax_ask.specs.declared.op.Item.{Item}
use Rattle.ax_ask.specs.declared.op.Item.TheVariants.{Reader}
use Rattle.ax_run_rules.specs.Fair.{is_reader}
use Rattle.ax_run_rules.specs.Taken.{Closed, queries_at}
use Rattle.ax_trees.proofs.Trees.{by_go}
use Rattle.ax_run_laws.proofs.Found.{same_number}
use Rattle.ax_order_laws.specs.Parts.{list_at, RisesWithin}
use Rattle.ax_order_laws.specs.Told.{is_entry}
use Rattle.ax_order_laws.proofs.Lists.{count, count_both, count_hit, count_miss, count_all, count_none}
use Rattle.ax_order_laws.proofs.Places.{EachPlaced, each_both}

-- ---- numbers that don't fall

ltb_tells : (a b : ℕ) → ((ltb a b ≡ true) × (a < b)) ⊎ ((ltb a b ≡ false) × (b ≤ a))
ltb_tells a b = by_go (ltb a b) (λ q. inl (q, ltb-true a b q)) (λ q. inr (q, ltb-false a b q))

abbrev pub below : ℕ → ℕ → Bool
below n m = nat_lt m n

abbrev pub equal_to : ℕ → ℕ → Bool
equal_to n m = m == n

pub none_below : (n low high : ℕ) (ns : List ℕ) → n ≤ low → RisesWithin low high ns → count (below n) ns ≡ 0
none_below n low high [] h r = refl
none_below n low high (m ∷ ns) h r =
    let l : low ≤ m = r.0 in
    let no : ltb m n ≡ false = grind (arith, ltb_tells m n) in
    let rest = none_below n m high ns (omega arith) r.2 in rw no rest

none_equal : (n low high : ℕ) (ns : List ℕ) → n < low → RisesWithin low high ns → count (equal_to n) ns ≡ 0
none_equal n low high [] h r = refl
none_equal n low high (m ∷ ns) h r =
    let l : low ≤ m = r.0 in
    let no : eqb m n ≡ false = grind (arith, eqb_tells m n) in
    let rest = none_equal n m high ns (omega arith) r.2 in rw no rest

-- the looks at n stand after those below n
first_or_next : (m j n high : ℕ) (ns : List ℕ) → m ≡ n → RisesWithin m high ns → ((i : ℕ) → i < count (equal_to n) ns → slice_get ns (count (below n) ns + i) ≡ Some n)
    → j < suc (count (equal_to n) ns) → slice_get (m ∷ ns) (0 + j) ≡ Some n
first_or_next m zero n high ns e r ih k = ap Some e
first_or_next m (suc j) n high ns e r ih k =
    let none : count (below n) ns ≡ 0 = none_below n m high ns (omega (arith, e)) r in
    let z : 0 + suc j ≡ suc (count (below n) ns + j) = omega (arith, none) in
    ap (λ i. slice_get (m ∷ ns) i) z ∙ ih j (omega (arith, k))

at_or_after : (m j n high : ℕ) (ns : List ℕ) → n ≤ m → RisesWithin m high ns → ((i : ℕ) → i < count (equal_to n) ns → slice_get ns (count (below n) ns + i) ≡ Some n)
    → j < count (equal_to n) (m ∷ ns) → slice_get (m ∷ ns) (0 + j) ≡ Some n
at_or_after m j n high ns l r ih h =
    by_go (eqb m n)
    (λ q. let e : m ≡ n = grind (arith, eqb_tells m n) in
    let k : j < suc (count (equal_to n) ns) = rw q at h in
    first_or_next m j n high ns e r ih k)
    (λ q. let later : n < m = grind (arith, eqb_tells m n) in
    let none = none_equal n m high ns later r in
    let k : j < count (equal_to n) ns = rw q at h in absurd (omega (arith, none, k)))

pub look_there : (n low high j : ℕ) (ns : List ℕ) → RisesWithin low high ns → j < count (equal_to n) ns → slice_get ns (count (below n) ns + j) ≡ Some n
look_there n low high j [] r h = absurd (omega arith)
look_there n low high j (m ∷ ns) r h =
    by_go (ltb m n)
    (λ q. let l : m < n = grind (arith, ltb_tells m n) in
    let no : eqb m n ≡ false = grind (arith, eqb_tells m n) in
    let k : j < count (equal_to n) ns = rw no at h in
    let e : suc (count (below n) ns) + j ≡ suc (count (below n) ns + j) = omega arith in
    rw q (ap (λ i. slice_get (m ∷ ns) i) e ∙ look_there n m high j ns r.2 k))
    (λ q. let l : n ≤ m = grind (arith, ltb_tells m n) in
    let none : count (below n) ns ≡ 0 = none_below n m high ns l r.2 in
    rw (q, none) (at_or_after m j n high ns l r.2 (λ i x. look_there n m high i ns r.2 x) h))

-- one more length
pub below_next : (n : ℕ) (ns : List ℕ) → count (below (suc n)) ns ≡ count (below n) ns + count (equal_to n) ns
below_next n [] = refl
below_next n (m ∷ ns) =
    let h = below_next n ns in
    by_go (ltb m n)
    (λ q. let l : m < n = grind (arith, ltb_tells m n) in
    let a : ltb m (suc n) ≡ true = grind (arith, ltb_tells m (suc n)) in
    let b : eqb m n ≡ false = grind (arith, eqb_tells m n) in rw (q, a, b) (omega (arith, h)))
    (λ q. by_go (eqb m n)
    (λ p. let e : m ≡ n = grind (arith, eqb_tells m n) in
    let a : ltb m (suc n) ≡ true = grind (arith, ltb_tells m (suc n)) in rw (q, a, p) (omega (arith, h)))
    (λ p. let l : n < m = grind (arith, eqb_tells m n, ltb_tells m n) in
    let a : ltb m (suc n) ≡ false = grind (arith, ltb_tells m (suc n)) in rw (q, a, p) (omega (arith, h))))

pub all_below : (low high : ℕ) (ns : List ℕ) → RisesWithin low high ns → count (below (suc high)) ns ≡ length ns
all_below low high [] r = refl
all_below low high (m ∷ ns) r =
    let l : m ≤ high = r.1 in
    let a : ltb m (suc high) ≡ true = grind (arith, ltb_tells m (suc high)) in
    let h = all_below m high ns r.2 in rw a (ap suc h)

-- ---- the queries at n

abbrev pub asked_at : ℕ → ℕ × List ℕ → List Item
asked_at n r = replicate (count (equal_to n) r.1) (Reader r.0)

-- a test that passes no query counts none there
pub queries_other : (p : Item → Bool) (n d : ℕ) (looks : List (List ℕ)) → ((k : ℕ) → p (Reader k) ≡ false) → count p (flat_map (asked_at n) (enumerate_from d looks)) ≡ 0
queries_other p n d [] h = refl
queries_other p n d (ns ∷ looks) h =
    let e = count_both p (asked_at n (d, ns)) (flat_map (asked_at n) (enumerate_from (d + 1) looks)) in
    let a = count_none p (count (equal_to n) ns) (Reader d) (h d) in
    let b = queries_other p n (d + 1) looks h in omega (arith, e, a, b)

-- the readers from d on have none of an earlier number
queries_later : (k n d : ℕ) (looks : List (List ℕ)) → k < d → count (is_reader k) (flat_map (asked_at n) (enumerate_from d looks)) ≡ 0
queries_later k n d [] h = refl
queries_later k n d (ns ∷ looks) h =
    let no : eqb d k ≡ false = grind (arith, eqb_tells d k) in
    let e = count_both (is_reader k) (asked_at n (d, ns)) (flat_map (asked_at n) (enumerate_from (d + 1) looks)) in
    let a = count_none (is_reader k) (count (equal_to n) ns) (Reader d) no in
    let b = queries_later k n (d + 1) looks (omega arith) in omega (arith, e, a, b)

-- the reader at the place k has its looks at n
pub queries_own : (k n d m : ℕ) (looks : List (List ℕ)) → m ≡ d + k → count (is_reader m) (flat_map (asked_at n) (enumerate_from d looks)) ≡ count (equal_to n) (list_at looks k)
queries_own k n d m [] h = refl
queries_own zero n d m (ns ∷ looks) h =
    let same : m ≡ d = omega (arith, h) in
    let own : eqb d m ≡ true = grind (arith, eqb_tells d m) in
    let e = count_both (is_reader m) (asked_at n (d, ns)) (flat_map (asked_at n) (enumerate_from (d + 1) looks)) in
    let a = count_all (is_reader m) (count (equal_to n) ns) (Reader d) own in
    let b = queries_later m n (d + 1) looks (omega arith) in omega (arith, e, a, b)
queries_own (suc k) n d m (ns ∷ looks) h =
    let no : eqb d m ≡ false = grind (arith, eqb_tells d m) in
    let e = count_both (is_reader m) (asked_at n (d, ns)) (flat_map (asked_at n) (enumerate_from (d + 1) looks)) in
    let a = count_none (is_reader m) (count (equal_to n) ns) (Reader d) no in
    let b = queries_own k n (d + 1) m looks (omega (arith, h)) in omega (arith, e, a, b)

module _ (c : Closed) (looks : List (List ℕ)) (high n : ℕ) (rises : (k : ℕ) → RisesWithin 0 high (list_at looks k)) where
  -- x queries of one reader
  reader_placed : (x k : ℕ) (b : List Item) → count is_entry b ≡ n → ((j : ℕ) → j < x → slice_get (list_at looks k) (count (is_reader (suc k)) b + j) ≡ Some n)
      → EachPlaced c looks b (replicate x (Reader (suc k)))
  reader_placed zero k b e h = tt
  reader_placed (suc x) k b e h =
      let here : slice_get (list_at looks k) (count (is_reader (suc k)) b) ≡ Some (count is_entry b) =
      ap (λ i. slice_get (list_at looks k) i) (let z : count (is_reader (suc k)) b ≡ count (is_reader (suc k)) b + 0 = omega arith in z) ∙ (h 0 (omega arith) ∙ ap Some (sym e)) in
      let own : count (is_reader (suc k)) (b ++ Reader (suc k) ∷ []) ≡ suc (count (is_reader (suc k)) b) = count_hit (is_reader (suc k)) b (Reader (suc k)) (same_number (suc k)) in (
        here,
        reader_placed x k (b ++ Reader (suc k) ∷ []) (count_miss is_entry b (Reader (suc k)) refl ∙ e)
            (λ j l. ap (λ i. slice_get (list_at looks k) i) (let z : count (is_reader (suc k)) (b ++ Reader (suc k) ∷ []) + j ≡ count (is_reader (suc k)) b + suc j = omega (arith, own) in z) ∙ h (suc j) (omega arith)),
      )

  readers_placed : (rest : List (List ℕ)) (d : ℕ) (m : ℕ) (b : List Item) → m ≡ suc d → count is_entry b ≡ n → ((k : ℕ) → list_at rest k ≡ list_at looks (d + k))
      → ((k : ℕ) → count (is_reader (suc (d + k))) b ≡ count (below n) (list_at rest k)) → EachPlaced c looks b (flat_map (asked_at n) (enumerate_from m rest))
  readers_placed [] d m b h e same asked = tt
  readers_placed (ns ∷ rest) d m b h e same asked =
      let first : ns ≡ list_at looks d = same 0 ∙ ap (list_at looks) (omega arith) in
      let before : count (is_reader (suc d)) b ≡ count (below n) ns = ap (λ k. count (is_reader (suc k)) b) (let z : d ≡ d + 0 = omega arith in z) ∙ asked 0 in
      let up : RisesWithin 0 high ns = subst (λ l. RisesWithin 0 high l) (sym first) (rises d) in
      let x : ℕ = count (equal_to n) ns in
      let own : EachPlaced c looks b (replicate (count (equal_to n) ns) (Reader (suc d))) = reader_placed (count (equal_to n) ns) d b e
      (λ j l. ap (λ w. slice_get w (count (is_reader (suc d)) b + j)) (sym first) ∙ (ap (λ i. slice_get ns (i + j)) before ∙ look_there n 0 high j ns up l)) in
      let mine : EachPlaced c looks b (replicate (count (equal_to n) ns) (Reader m)) = subst (λ w. EachPlaced c looks b (replicate (count (equal_to n) ns) (Reader w))) (sym h) own in
      let all = replicate (count (equal_to n) ns) (Reader m) in
      let still : count is_entry (b ++ all) ≡ n = let a = count_both is_entry b all in let z = count_none is_entry (count (equal_to n) ns) (Reader m) refl in omega (arith, a, z, e) in
      each_both c looks b all (flat_map (asked_at n) (enumerate_from (m + 1) rest)) mine
      (readers_placed rest (suc d) (m + 1) (b ++ all) (omega (arith, h)) still
      (λ k. same (suc k) ∙ ap (list_at looks) (omega arith))
      (λ k. let other : eqb m (suc (suc d + k)) ≡ false = grind (arith, eqb_tells m (suc (suc d + k))) in
      let a = count_both (is_reader (suc (suc d + k))) b all in
      let z = count_none (is_reader (suc (suc d + k))) (count (equal_to n) ns) (Reader m) other in
      let old : count (is_reader (suc (suc d + k))) b ≡ count (below n) (list_at rest k) = ap (λ i. count (is_reader (suc i)) b) (let y : suc d + k ≡ d + suc k = omega arith in y) ∙ asked (suc k) in
      omega (arith, a, z, old)))

  pub queries_placed : (b : List Item) → count is_entry b ≡ n → ((k : ℕ) → count (is_reader (suc k)) b ≡ count (below n) (list_at looks k)) → EachPlaced c looks b (queries_at looks n)
  unfolding queries_at
  queries_placed b e h =
      readers_placed looks 0 1 b refl e (λ k. ap (list_at looks) (omega arith)) (λ k. ap (λ i. count (is_reader (suc i)) b) (let y : 0 + k ≡ k = omega arith in y) ∙ h k)
