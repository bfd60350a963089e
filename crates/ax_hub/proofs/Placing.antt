-- The places of trees by their numbers.
use Rattle.std.proofs.Common.{◌≡◌, ◌==◌, ℕ, zero, suc, ◌+◌, ◌<◌, true, false, List, [], ◌∷◌, length, get_or, set, slice_get, Option, Some, None, MatchOption, refl, sym, ap, ◌∙◌, subst, arith}
use Rattle.std.proofs.lemmas.Bool.{eqb-true}
use Rattle.std.proofs.lemmas.Bool.Decides.{eqb_tells}
use Rattle.ax_trees.specs.Lists.{contains, NoneTwice}
use Rattle.ax_trees.proofs.Trees.{by_go}
use Rattle.ax_hub.specs.Hubs.{ArePlaces}
use Rattle.ax_hub.proofs.ListLemmas.{there, set_here, set_there}

same_number : (n : ℕ) → (n == n) ≡ true
same_number n = grind arith

tree_in : (trees : List ℕ) (i t : ℕ) → slice_get trees i ≡ Some t → contains trees t ≡ true
tree_in [] i t h = absurd (cc)
tree_in (x ∷ xs) zero t h = let e : x ≡ t = cc in let q : (x == t) ≡ true = ap (λ y. y == t) e ∙ same_number t in rw q refl
tree_in (x ∷ xs) (suc i) t h = let k = tree_in xs i t h in by_go (x == t) (λ q. rw q refl) (λ q. rw q k)

-- a tree stands at one place
same_place : (trees : List ℕ) (i j t : ℕ) → NoneTwice trees → slice_get trees i ≡ Some t → slice_get trees j ≡ Some t → i ≡ j
same_place [] i j t once h k = absurd (cc)
same_place (x ∷ xs) zero zero t once h k = refl
same_place (x ∷ xs) zero (suc j) t once h k =
    let s : x ≡ t = cc in let bad : false ≡ true = sym once.0 ∙ (ap (contains xs) s ∙ tree_in xs j t k) in absurd (cc)
same_place (x ∷ xs) (suc i) zero t once h k =
    let s : x ≡ t = cc in let bad : false ≡ true = sym once.0 ∙ (ap (contains xs) s ∙ tree_in xs i t h) in absurd (cc)
same_place (x ∷ xs) (suc i) (suc j) t once h k = ap suc (same_place xs i j t once.1 h k)

pub found : (trees : List ℕ) (t : ℕ) → contains trees t ≡ true → (at : ℕ) × (slice_get trees at ≡ Some t)
found [] t h = absurd (cc)
found (x ∷ xs) t h =
    by_go (x == t)
    (λ q. (zero, ap Some (eqb-true x t q)))
    (λ q. let k : contains (x ∷ xs) t ≡ contains xs t = rw q refl in let r = found xs t (sym k ∙ h) in (suc r.0, r.1))

-- ---- the table while it is made

abbrev pub PlacedTo : List ℕ → List ℕ → ℕ → Type 0
PlacedTo trees places i = (j t : ℕ) → j < i → slice_get trees j ≡ Some t → slice_get places t ≡ Some j

pub place_more : (trees places : List ℕ) (i x : ℕ) → NoneTwice trees → i < length trees → x ≡ get_or trees i x → x < length places → PlacedTo trees places i → PlacedTo trees (set places x i) (i + 1)
place_more trees places i x once l h w old j t k e =
    by_go (j == i)
    (λ q. let s : j ≡ i = eqb-true j i q in
    let same : Some t ≡ Some x = sym e ∙ (ap (slice_get trees) s ∙ there trees i x l h) in
    let tree : t ≡ x = cc in
    ap (slice_get (set places x i)) tree ∙ (set_here places x i w ∙ ap Some (sym s)))
    (λ q. let apart : j ≡ i → ⊥ = λ s. (let r : (j == i) ≡ true = ap (λ y. y == i) s ∙ same_number i in let bad : false ≡ true = sym q ∙ r in absurd (cc)) in
    let other : x ≡ t → ⊥ = λ s. apart (same_place trees j i t once e (there trees i x l h ∙ ap Some s)) in
    let before : j < i = grind (arith, eqb_tells j i) in
    set_there places x t i other ∙ old j t before e)

-- ---- the table in use

-- where the tree doesn't stand at the place of its number, it stands nowhere
pub nowhere : (trees places : List ℕ) (t : ℕ) → ArePlaces trees places → ((at : ℕ) → slice_get places t ≡ Some at → slice_get trees at ≡ Some t → ⊥) → contains trees t ≡ false
nowhere trees places t are strange =
    by_go (contains trees t)
    (λ q. let f = found trees t q in absurd (strange f.0 (are.place f.0 t f.1) f.1))
    (λ q. q)

-- at the place of its number stands nothing, or another tree
pub not_there : (trees now places : List ℕ) (t at : ℕ) → trees ≡ now → ArePlaces trees places → slice_get places t ≡ Some at → None ≡ slice_get trees at → contains now t ≡ false
not_there trees now places t at is are there none =
    subst (λ l. contains l t ≡ false) is (nowhere trees places t are (λ i e f. (let s : i ≡ at = let same : Some i ≡ Some at = sym e ∙ there in cc in
    let bad : None ≡ Some t = none ∙ (ap (slice_get trees) (sym s) ∙ f) in absurd (cc))))

pub other_there : (trees now places : List ℕ) (t at u : ℕ) → trees ≡ now → ArePlaces trees places → slice_get places t ≡ Some at → Some u ≡ slice_get trees at → (u ≡ t → ⊥) → contains now t ≡ false
other_there trees now places t at u is are there some apart =
    subst (λ l. contains l t ≡ false) is (nowhere trees places t are (λ i e f. (let s : i ≡ at = let same : Some i ≡ Some at = sym e ∙ there in cc in
    let same : Some u ≡ Some t = some ∙ (ap (slice_get trees) (sym s) ∙ f) in apart (cc))))

pub no_place : (r : Option ℕ) (trees : List ℕ) (t : ℕ) → r ≡ None → contains trees t ≡ false → MatchOption r (contains trees t ≡ false) (λ at. slice_get trees at ≡ Some t)
no_place r trees t e h = subst (λ x. MatchOption x (contains trees t ≡ false) (λ at. slice_get trees at ≡ Some t)) (sym e) h
