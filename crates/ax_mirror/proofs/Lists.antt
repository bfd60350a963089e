-- What loops over a list of ids have found.
use Rattle.std.proofs.Common.{◌≡◌, ℕ, zero, suc, ◌+◌, ◌≤◌, Bool, true, false, cond, not, ◌||◌, eqb, List, [], ◌∷◌, ◌++◌, length, drop, take, Some, None, refl, sym, ap, subst, ◌∙◌, arith, append_assoc, length-append}
use Rattle.std.proofs.lemmas.Bool.{eqb-true}
use Rattle.ax_trees.specs.Lists.{contains, NoneTwice}
use Rattle.ax_trees.proofs.Lists.{once_push, drop_at, contains_push, IsAt}
use Rattle.ax_tree.specs.UpdateRule.{first_repeated}
use Rattle.ax_tree.specs.Touching.{with_id}
use Rattle.ax_mirror.specs.Steps.{unlisted}

-- the ids before this index are in the set, and none of them twice
pub record Seen (p : ℕ → Bool) (xs : List ℕ) (i : ℕ) : Type 0 where
  pub seen : List ℕ
  pub same : (z : ℕ) → p z ≡ contains seen z
  pub rest : first_repeated [] xs ≡ first_repeated seen (drop i xs)

pub contains_with : (xs : List ℕ) (x z : ℕ) → contains (with_id xs x) z ≡ cond (eqb x z) true (contains xs z)
contains_with xs x z = go (contains xs x) refl
  where
    go : (b : Bool) → contains xs x ≡ b → contains (cond b xs (xs ++ x ∷ [])) z ≡ cond (eqb x z) true (contains xs z)
    go false e = contains_push xs x z
    go true e = here (eqb x z) refl
      where
        here : (c : Bool) → eqb x z ≡ c → contains xs z ≡ cond c true (contains xs z)
        here true q = ap (contains xs) (sym (eqb-true x z q)) ∙ e
        here false q = refl

pub once_with : (xs : List ℕ) (x : ℕ) → NoneTwice xs → contains xs x ≡ false → NoneTwice (xs ++ x ∷ [])
once_with xs x o n = once_push xs x o n

pub length_new : (xs : List ℕ) (x : ℕ) → contains xs x ≡ false → length (with_id xs x) ≡ length xs + 1
length_new xs x h = rw h (length-append xs (x ∷ []))

pub length_old : (xs : List ℕ) (x : ℕ) → contains xs x ≡ true → length (with_id xs x) ≡ length xs
length_old xs x h = rw h refl

-- a new id is worth a step
pub one_more : (a b : ℕ) (t u : List ℕ) (x : ℕ) (n : Bool) → u ≡ with_id t x → n ≡ not (contains t x) → b ≤ a + cond n 1 0 → b + length t ≤ a + length u
one_more a b t u x n e h c = go (contains t x) refl
  where
    go : (q : Bool) → contains t x ≡ q → b + length t ≤ a + length u
    go true w =
        let l : length u ≡ length t = ap length e ∙ length_old t x w in
        let k : n ≡ false = h ∙ ap not w in
        let d : b ≤ a + 0 = subst (λ m. b ≤ a + cond m 1 0) k c in
        omega arith
    go false w =
        let l : length u ≡ length t + 1 = ap length e ∙ length_new t x w in
        let k : n ≡ true = h ∙ ap not w in
        let d : b ≤ a + 1 = subst (λ m. b ≤ a + cond m 1 0) k c in
        omega arith

or_cond : (b c : Bool) → cond b true c ≡ (b || c)
or_cond true c = refl
or_cond false c = refl

pub twice_here : (p : ℕ → Bool) (xs : List ℕ) (i x : ℕ) → Seen p xs i → IsAt xs i x → p x ≡ true → first_repeated [] xs ≡ Some x
twice_here p xs i x s a h =
    let t : contains s.seen x ≡ true = sym (s.same x) ∙ h in
    s.rest ∙ ap (first_repeated s.seen) (drop_at xs i x a) ∙ rw t refl

pub twice_next : (p q : ℕ → Bool) (xs : List ℕ) (i x : ℕ) → Seen p xs i → IsAt xs i x → p x ≡ false → ((z : ℕ) → q z ≡ cond (eqb x z) true (p z)) → Seen q xs (i + 1)
twice_next p q xs i x s a h u =
    let t : contains s.seen x ≡ false = sym (s.same x) ∙ h in
    record {
      seen = x ∷ s.seen;
      same = λ z. u z ∙ or_cond (eqb x z) (p z) ∙ ap (λ b. eqb x z || b) (s.same z);
      rest = s.rest ∙ ap (first_repeated s.seen) (drop_at xs i x a) ∙ rw t refl;
    }

pub unlisted_in : (p : ℕ → Bool) (xs out : List ℕ) (i x : ℕ) → IsAt xs i x → p x ≡ true → out ++ unlisted p (drop i xs) ≡ unlisted p xs → out ++ unlisted p (drop (i + 1) xs) ≡ unlisted p xs
unlisted_in p xs out i x a h e =
    let w : unlisted p (drop i xs) ≡ unlisted p (drop (i + 1) xs) = ap (unlisted p) (drop_at xs i x a) ∙ rw h refl in
    ap (λ ys. out ++ ys) (sym w) ∙ e

pub unlisted_out : (p : ℕ → Bool) (xs out next : List ℕ) (i x : ℕ) → IsAt xs i x → p x ≡ false → out ++ unlisted p (drop i xs) ≡ unlisted p xs → next ≡ out ++ x ∷ [] → next ++ unlisted p (drop (i + 1) xs) ≡ unlisted p xs
unlisted_out p xs out next i x a h e n =
    let w : unlisted p (drop i xs) ≡ x ∷ unlisted p (drop (i + 1) xs) = ap (unlisted p) (drop_at xs i x a) ∙ rw h refl in
    ap (λ ys. ys ++ unlisted p (drop (i + 1) xs)) n ∙ append_assoc out (x ∷ []) (unlisted p (drop (i + 1) xs)) ∙ ap (λ ys. out ++ ys) (sym w) ∙ e

pub unlisted_ext : (p q : ℕ → Bool) (xs : List ℕ) → ((z : ℕ) → p z ≡ q z) → unlisted p xs ≡ unlisted q xs
unlisted_ext p q [] h = refl
unlisted_ext p q (x ∷ xs) h = rw (h x, unlisted_ext p q xs h) refl

-- an item of a list without repeats isn't among those before it
no_dup : (seen xs : List ℕ) (i x : ℕ) → first_repeated seen xs ≡ None → IsAt xs i x → (contains seen x ≡ false) × (contains (take i xs) x ≡ false)
no_dup seen [] i x h a = absurd (let l = a.low in omega arith)
no_dup seen (y ∷ ys) zero x h a = by_seen (contains seen y) refl h
  where
    same : x ≡ y
    same = a.item

    by_seen : (b : Bool) → contains seen y ≡ b → cond b (Some y) (first_repeated (y ∷ seen) ys) ≡ None → (contains seen x ≡ false) × (false ≡ false)
    by_seen true e h = absurd (cc)
    by_seen false e h = (ap (contains seen) same ∙ e, refl)
no_dup seen (y ∷ ys) (suc i) x h a = by_seen (contains seen y) refl h (λ g. no_dup (y ∷ seen) ys i x g (record { low = let l = a.low in omega arith; item = a.item }))
  where
    by_seen : (b : Bool) → contains seen y ≡ b → cond b (Some y) (first_repeated (y ∷ seen) ys) ≡ None → (first_repeated (y ∷ seen) ys ≡ None → ((eqb y x || contains seen x) ≡ false) × (contains (take i ys) x ≡ false))
        → (contains seen x ≡ false) × ((eqb y x || contains (take i ys) x) ≡ false)
    by_seen true e h ih = absurd (cc)
    by_seen false e h ih = let p = ih h in (grind (arith, p.0), grind (arith, p.0, p.1))

pub fresh_item : (xs : List ℕ) (i x : ℕ) → first_repeated [] xs ≡ None → IsAt xs i x → contains (take i xs) x ≡ false
fresh_item xs i x h a = (no_dup [] xs i x h a).1

pub take_whole : (xs : List ℕ) (i : ℕ) → length xs ≤ i → take i xs ≡ xs
take_whole [] zero h = refl
take_whole [] (suc i) h = refl
take_whole (x ∷ xs) zero h = absurd (omega arith)
take_whole (x ∷ xs) (suc i) h = ap (λ ys. x ∷ ys) (take_whole xs i (omega arith))

pub drop_whole : {X : Type 0} (xs : List X) (i : ℕ) → length xs ≤ i → drop i xs ≡ []
drop_whole [] zero h = refl
drop_whole [] (suc i) h = refl
drop_whole (x ∷ xs) zero h = absurd (omega arith)
drop_whole (x ∷ xs) (suc i) h = drop_whole xs i (omega arith)
