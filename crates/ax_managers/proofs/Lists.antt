-- Lists of ids: what is in them once they are filtered or grown, and maps that a loop over a list fills.
use Rattle.std.proofs.Common.{ℕ, ◌≡◌, ◌+◌, Bool, true, cond, eqb, List, [], ◌∷◌, ◌++◌, take, Option, Some, None, refl, sym, ap, ◌∙◌, arith}
use Rattle.std.specs.Prelude.{filter}
use Rattle.std.proofs.lemmas.Bool.Decides.{eqb_tells}
use Rattle.std.proofs.lemmas.Bool.{eqb-true, false≢true}
use Rattle.ax_trees.specs.Lists.{contains, first_that}
use Rattle.ax_trees.specs.Spots.{or_else}
use Rattle.ax_trees.proofs.Trees.{by_go}
use Rattle.ax_tree.specs.Touching.{with_id}
use Rattle.ax_managers.proofs.Namings.{first_push}
use Rattle.ax_trees.proofs.Lists.{take_at, contains_push, contains_next, IsAt}

-- an id more in a list of touched ids
pub contains_with : (xs : List ℕ) (x z : ℕ) → contains (with_id xs x) z ≡ cond (eqb x z) true (contains xs z)
contains_with xs x z =
    by_go (contains xs x)
    (λ q. ap (λ b. contains (cond b xs (xs ++ x ∷ [])) z) q ∙ by_go (eqb x z)
    (λ s. ap (contains xs) (sym (eqb-true x z s)) ∙ (q ∙ sym (ap (λ b. cond b true (contains xs z)) s)))
    (λ s. sym (ap (λ b. cond b true (contains xs z)) s)))
    (λ q. ap (λ b. contains (cond b xs (xs ++ x ∷ [])) z) q ∙ contains_push xs x z)

pub filter_passes : (q : ℕ → Bool) (xs : List ℕ) (z : ℕ) → contains (filter q xs) z ≡ true → q z ≡ true
filter_passes q [] z h = absurd (false≢true h)
filter_passes q (x ∷ xs) z h =
    by_go (q x)
    (λ s. let h' : contains (x ∷ filter q xs) z ≡ true = rw s at h in
    by_go (eqb x z) (λ t. ap q (sym (eqb-true x z t)) ∙ s) (λ t. filter_passes q xs z (grind (arith, h', t))))
    (λ s. filter_passes q xs z (rw s at h))

pub filter_listed : (q : ℕ → Bool) (xs : List ℕ) (z : ℕ) → contains (filter q xs) z ≡ true → contains xs z ≡ true
filter_listed q [] z h = h
filter_listed q (x ∷ xs) z h =
    by_go (eqb x z)
    (λ t. grind (arith, t))
    (λ t. let r : contains xs z ≡ true = by_go (q x) (λ s. filter_listed q xs z (let h' : contains (x ∷ filter q xs) z ≡ true = rw s at h in grind (arith, h', t))) (λ s. filter_listed q xs z (rw s at h)) in grind (arith, r))

pub first_same : (p q : ℕ → Bool) (xs : List ℕ) → ((z : ℕ) → contains xs z ≡ true → p z ≡ q z) → first_that p xs ≡ first_that q xs
first_same p q [] h = refl
first_same p q (x ∷ xs) h =
    let here : p x ≡ q x = h x (grind (arith, eqb_tells x x)) in
    let rest : first_that p xs ≡ first_that q xs = first_same p q xs (λ z g. h z (grind (arith, g))) in
    rw (here, rest) refl

-- ---- a loop over ids

-- a map that has f at the ids so far, and otherwise what it had
pub put_next : (f before at next : ℕ → Option ℕ) (xs : List ℕ) (i x : ℕ) → IsAt xs i x
    → ((z : ℕ) → at z ≡ cond (contains (take i xs) z) (f z) (before z)) → ((z : ℕ) → next z ≡ cond (eqb x z) (f z) (at z))
    → (z : ℕ) → next z ≡ cond (contains (take (i + 1) xs) z) (f z) (before z)
put_next f before at next xs i x a h e z =
    by_go (eqb x z)
    (λ q. e z ∙ (ap (λ b. cond b (f z) (at z)) q ∙ sym (ap (λ b. cond b (f z) (before z)) (contains_next xs i x z a ∙ ap (λ b. cond b true (contains (take i xs) z)) q))))
    (λ q. e z ∙ (ap (λ b. cond b (f z) (at z)) q ∙ (h z ∙ sym (ap (λ b. cond b (f z) (before z)) (contains_next xs i x z a ∙ ap (λ b. cond b true (contains (take i xs) z)) q)))))

-- the first that passes, one id further
pub first_next : (p : ℕ → Bool) (xs : List ℕ) (i x : ℕ) → IsAt xs i x → first_that p (take (i + 1) xs) ≡ or_else (first_that p (take i xs)) (cond (p x) (Some x) None)
first_next p xs i x a = ap (first_that p) (take_at xs i x a) ∙ first_push p (take i xs) x

-- one value put in, as a value of f
pub value_at : (f at next : ℕ → Option ℕ) (x : ℕ) (v : Option ℕ) → v ≡ f x → ((z : ℕ) → next z ≡ cond (eqb x z) v (at z)) → (z : ℕ) → next z ≡ cond (eqb x z) (f z) (at z)
value_at f at next x v w e z =
    by_go (eqb x z)
    (λ q. e z ∙ (ap (λ b. cond b v (at z)) q ∙ (w ∙ (ap f (eqb-true x z q) ∙ sym (ap (λ b. cond b (f z) (at z)) q)))))
    (λ q. e z ∙ (ap (λ b. cond b v (at z)) q ∙ sym (ap (λ b. cond b (f z) (at z)) q)))
