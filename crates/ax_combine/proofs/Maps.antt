-- The map from places to numbers, filled from the end of the list.
use Rattle.std.proofs.Common.{ℕ, zero, suc, ◌+◌, ◌*◌, ◌<◌, ◌≤◌, ◌≡◌, Bool, true, false, cond, ◌==◌, ◌&&◌, eqb, List, [], ◌∷◌, length, drop, get_or, Option, Some, None, refl, sym, ap, ◌∙◌, arith, option_map, drop_of_length-le}
use Rattle.std.proofs.lemmas.Bool.{false≢true, false_from_ne_true, eqb-true}
use Rattle.std.proofs.lemmas.Bool.Decides.{eqb_tells}
use Rattle.ax_base.specs.declared.position.Place.{Place}
use Rattle.ax_trees.proofs.Trees.{by_go}
use Rattle.ax_rules.specs.Looks.{same_place}
use Rattle.ax_rules.specs.StitchedTree.{place_number}
use Rattle.ax_rules.specs.Combined.{number_of}
use Rattle.ax_stitch.proofs.Lists.{step_back}
use Rattle.ax_stitch.proofs.Places.{same_is}
use Rattle.ax_combine.specs.Numbering.{AreNumbers}
use Rattle.ax_combine.proofs.Positions.{number_cons, number_none}

-- the number of a place behind the first n
abbrev pub number_since : List Place → ℕ → Place → Option ℕ
number_since ps n p = option_map (λ i. i + n) (number_of (drop n ps) p)

-- the map has the numbers of the places behind the first n
abbrev pub Since : (ℕ → Option ℕ) → List Place → ℕ → Type 0
Since m ps n = (p : Place) → p.node < 2147483648 → m (place_number p) ≡ number_since ps n p

same_key : (p q : Place) → p.node < 2147483648 → q.node < 2147483648 → eqb (place_number q) (place_number p) ≡ same_place p q
same_key p q h g = by_go (same_place p q)
    (λ s. let e : place_number q ≡ place_number p = ap place_number (sym (same_is p q s)) in rw s (grind (arith, e, eqb_tells (place_number q) (place_number p))))
    (λ s. rw s (false_from_ne_true (eqb (place_number q) (place_number p)) (λ y. false≢true (sym s ∙ both (eqb-true (place_number q) (place_number p) y)))))
  where
    both : place_number q ≡ place_number p → same_place p q ≡ true
    both e =
        let t : p.tree ≡ q.tree = omega (arith, e, h, g) in
        let n : p.node ≡ q.node = omega (arith, e, h, g) in
        let a : eqb p.tree q.tree ≡ true = grind (arith, t, eqb_tells p.tree q.tree) in
        let b : eqb p.node q.node ≡ true = grind (arith, n, eqb_tells p.node q.node) in
        rw (a, b) refl

pub since_none : (m : ℕ → Option ℕ) (ps : List Place) (n : ℕ) → length ps ≤ n → ((z : ℕ) → m z ≡ None) → Since m ps n
since_none m ps n l e p h = e (place_number p) ∙ sym (ap (λ r. option_map (λ i. i + n) (number_of r p)) (drop_of_length-le ps l) ∙ ap (option_map (λ i. i + n)) (number_none p))

since_cons : (j : ℕ) (b : Bool) (o : Option ℕ) → cond b (Some (j + 1)) (option_map (λ i. i + (j + 1)) o) ≡ option_map (λ i. i + j) (cond b (Some 1) (option_map suc o))
since_cons j true o = let e : j + 1 ≡ 1 + j = omega arith in ap Some e
since_cons j false None = refl
since_cons j false (Some i) = let e : i + (j + 1) ≡ suc i + j = omega arith in ap Some e

pub since_step : (m n : ℕ → Option ℕ) (ps : List Place) (i j : ℕ) (q : Place) (k : ℕ) (v : ℕ) → i ≡ j + 1 → i ≤ length ps → q ≡ get_or ps j q → q.node < 2147483648 → k ≡ place_number q → v ≡ j + 1 → Since m ps i
    → ((z : ℕ) → n z ≡ cond (eqb k z) (Some v) (m z)) → Since n ps j
since_step m n ps i j q k v e l g small key val before u p h =
    let parts : drop j ps ≡ q ∷ drop i ps = step_back ps i j q e l g in
    u (place_number p)
    ∙ (ap (λ y. cond (eqb y (place_number p)) (Some v) (m (place_number p))) key
    ∙ (ap (λ b. cond b (Some v) (m (place_number p))) (same_key p q h small)
    ∙ (ap (λ y. cond (same_place p q) (Some y) (m (place_number p))) val
    ∙ (ap (cond (same_place p q) (Some (j + 1))) (before p h ∙ ap (λ y. option_map (λ z. z + y) (number_of (drop i ps) p)) e)
    ∙ (since_cons j (same_place p q) (number_of (drop i ps) p)
    ∙ ap (option_map (λ z. z + j)) (sym (ap (λ r. number_of r p) parts ∙ number_cons p q (drop i ps))))))))

plus_none : (o : Option ℕ) → option_map (λ i. i + 0) o ≡ o
plus_none None = refl
plus_none (Some i) = let e : i + 0 ≡ i = omega arith in ap Some e

pub since_all : (m : ℕ → Option ℕ) (ps : List Place) (n : ℕ) → n ≤ 0 → Since m ps n → AreNumbers m ps
since_all m ps n z s = record { at = λ p h. let e : n ≡ 0 = omega (arith, z) in s p h ∙ (ap (λ i. number_since ps i p) e ∙ plus_none (number_of ps p)) }
