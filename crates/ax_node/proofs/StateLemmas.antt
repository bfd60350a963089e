-- Ascending lists of states.
use Rattle.std.proofs.Common.{◌≡◌, ◌≢◌, ◌↔◌, IsTrue, ◌<◌, ◌≤◌, ℕ, zero, suc, Bool, true, false, cond, nat_eq, nat_lt, List, [], ◌∷◌, length, slice_index, insert, refl, sym, ap, ◌∙◌, arith}
use Rattle.std.specs.List.{list_all}
use Rattle.std.proofs.lemmas.Bool.{ltb-true, ltb-false, eqb-false, lt-ltb, le-ltb, eq-eqb, ne_eqb, and_parts, and_from, iff_false}
use Rattle.ax_node.specs.States.{with_state, are_ascending}

-- how `with_state` begins
step : (x : ℕ) (xs : List ℕ) (s : ℕ) (a b : Bool) → nat_lt x s ≡ a → nat_eq x s ≡ b → with_state (x ∷ xs) s ≡ cond a (x ∷ with_state xs s) (cond b (x ∷ xs) (s ∷ x ∷ xs))
step x xs s a b f g = ap (λ t. cond t (x ∷ with_state xs s) (cond (nat_eq x s) (x ∷ xs) (s ∷ x ∷ xs))) f ∙ ap (λ t. cond a (x ∷ with_state xs s) (cond t (x ∷ xs) (s ∷ x ∷ xs))) g

-- a state that stands at its place stays there
pub with-here : (xs : List ℕ) (s place : ℕ) → ((k : ℕ) → k < place → slice_index xs k < s) → place < length xs → slice_index xs place ≡ s → with_state xs s ≡ xs
with-here [] s place below l h = absurd (omega arith)
with-here (x ∷ xs) s zero below l h = step x xs s false true (le-ltb x s (omega (arith, h))) (eq-eqb x s h)
with-here (x ∷ xs) s (suc place) below l h =
    let first : x < s = below 0 (omega arith) in
    step x xs s true (nat_eq x s) (lt-ltb x s first) refl ∙ ap (λ r. x ∷ r) (with-here xs s place (λ k m. below (suc k) (omega (arith, m))) (omega (arith, l)) h)

-- another one is put in there
pub with-inserted : (xs : List ℕ) (s place : ℕ) → ((k : ℕ) → k < place → slice_index xs k < s) → place ≤ length xs → (place < length xs → s < slice_index xs place) → with_state xs s ≡ insert xs place s
with-inserted [] s zero below l above = refl
with-inserted [] s (suc place) below l above = absurd (omega arith)
with-inserted (x ∷ xs) s zero below l above =
    let first : s < x = above (omega arith) in
    step x xs s false false (le-ltb x s (omega arith)) (ne_eqb x s (λ e. omega (arith, e)))
with-inserted (x ∷ xs) s (suc place) below l above =
    let first : x < s = below 0 (omega arith) in
    step x xs s true (nat_eq x s) (lt-ltb x s first) refl ∙ ap (λ r. x ∷ r) (with-inserted xs s place (λ k m. below (suc k) (omega (arith, m))) (omega (arith, l)) (λ m. above (omega (arith, m))))

all-with : (p : ℕ → Bool) (xs : List ℕ) (s : ℕ) → list_all p xs ≡ true → p s ≡ true → list_all p (with_state xs s) ≡ true
all-with p [] s all h = and_from _ _ h refl
all-with p (x ∷ xs) s all h = go (nat_lt x s) (nat_eq x s) refl refl (all-with p xs s (and_parts _ _ all).1 h)
  where
    go : (a b : Bool) → nat_lt x s ≡ a → nat_eq x s ≡ b → list_all p (with_state xs s) ≡ true → list_all p (with_state (x ∷ xs) s) ≡ true
    go true b f g rest = ap (list_all p) (step x xs s true b f g) ∙ and_from _ _ (and_parts _ _ all).0 rest
    go false true f g rest = ap (list_all p) (step x xs s false true f g) ∙ all
    go false false f g rest = ap (list_all p) (step x xs s false false f g) ∙ and_from _ _ h all

all_above : (x s : ℕ) (xs : List ℕ) → s < x → list_all (λ y. nat_lt x y) xs ≡ true → list_all (λ y. nat_lt s y) xs ≡ true
all_above x s [] l all = refl
all_above x s (y ∷ ys) l all =
    let m : x < y = ltb-true x y (and_parts _ _ all).0 in
    and_from _ _ (lt-ltb s y (omega arith)) (all_above x s ys l (and_parts _ _ all).1)

pub ascending-with : (xs : List ℕ) (s : ℕ) → are_ascending xs ≡ true → are_ascending (with_state xs s) ≡ true
ascending-with [] s h = refl
ascending-with (x ∷ xs) s h = go (nat_lt x s) (nat_eq x s) refl refl (ascending-with xs s (and_parts _ _ h).1)
  where
    go : (a b : Bool) → nat_lt x s ≡ a → nat_eq x s ≡ b → are_ascending (with_state xs s) ≡ true → are_ascending (with_state (x ∷ xs) s) ≡ true
    go true b f g rest = ap are_ascending (step x xs s true b f g) ∙ and_from _ _ (all-with (λ y. nat_lt x y) xs s (and_parts _ _ h).0 f) rest
    go false true f g rest = ap are_ascending (step x xs s false true f g) ∙ h
    go false false f g rest =
        let after : s ≤ x = ltb-false x s f in
        let other : s < x = omega (arith, eqb-false x s g, after) in
        ap are_ascending (step x xs s false false f g) ∙ and_from _ _ (and_from _ _ (lt-ltb s x other) (all_above x s xs other (and_parts _ _ h).0)) h

-- the same, as the call finds it: what it asked, and what was answered
pub inserted_is : (xs : List ℕ) (s place : ℕ) (there : Bool) → place ≤ length xs → ((k : ℕ) → k < place → slice_index xs k < s) → (place < length xs → s ≤ slice_index xs place)
    → IsTrue there ↔ ((place < length xs) × (slice_index xs place ≡ s)) → there ≡ false → insert xs place s ≡ with_state xs s
inserted_is xs s place there within below above asked refused =
    sym (with-inserted xs s place below within (λ l.
    let least : s ≤ slice_index xs place = above l in
    let other : slice_index xs place ≢ s = λ e. iff_false asked refused (l, e) in
    omega (arith, least, other)))
