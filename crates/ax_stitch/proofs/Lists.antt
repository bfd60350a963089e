-- Fronts, ends and parts of lists. Belongs beside the words of ax_rules/specs/Sequences.
use Rattle.std.proofs.Common.{ℕ, suc, ◌+◌, ◌≤◌, ◌≡◌, true, false, cond, eqb, List, [], ◌∷◌, ◌++◌, length, drop, drop-cons, get_or, reverse, Some, refl, sym, ap, ◌∙◌, arith}
use Rattle.std.proofs.lemmas.List.{reverse-append}
use Rattle.std.proofs.lemmas.Bool.Decides.{eqb_tells}
use Rattle.std.proofs.lemmas.Bool.{false≢true}
use Rattle.ax_trees.specs.Lists.{contains}
use Rattle.ax_trees.specs.Spots.{or_else}
use Rattle.ax_trees.proofs.Trees.{by_go}
use Rattle.ax_rules.specs.Sequences.{first_of, last_of}
use Rattle.ax_stitch.specs.Orders.{ahead, past}

-- the last of a list, or d
abbrev pub last_or : {A : Type 0} → A → List A → A
last_or d [] = d
last_or d (x ∷ xs) = last_or x xs

pub first_of-append : {A : Type 0} (xs ys : List A) → first_of (xs ++ ys) ≡ or_else (first_of xs) (first_of ys)
first_of-append [] ys = refl
first_of-append (x ∷ xs) ys = refl

pub last_or-append : {A : Type 0} (d : A) (xs ys : List A) → last_or d (xs ++ ys) ≡ last_or (last_or d xs) ys
last_or-append d [] ys = refl
last_or-append d (x ∷ xs) ys = last_or-append x xs ys

pub last_of-append : {A : Type 0} (xs ys : List A) → last_of (xs ++ ys) ≡ or_else (last_of ys) (last_of xs)
last_of-append xs ys = ap first_of (reverse-append xs ys) ∙ first_of-append (reverse ys) (reverse xs)

pub last_of-push : {A : Type 0} (xs : List A) (x : A) → last_of (xs ++ x ∷ []) ≡ Some x
last_of-push xs x = last_of-append xs (x ∷ [])

pub last_of-cons : {A : Type 0} (d : A) (xs : List A) → last_of (d ∷ xs) ≡ Some (last_or d xs)
last_of-cons d [] = refl
last_of-cons d (x ∷ xs) = last_of-append (d ∷ []) (x ∷ xs) ∙ ap (λ o. or_else o (Some d)) (last_of-cons x xs)

-- the last of a list that isn't empty
pub last_of-after : {A : Type 0} (xs ys : List A) (y : A) → last_of ys ≡ Some y → last_of (xs ++ ys) ≡ Some y
last_of-after xs ys y e = last_of-append xs ys ∙ ap (λ o. or_else o (last_of xs)) e

-- ---- at an id

pub split_at : (xs : List ℕ) (z : ℕ) → contains xs z ≡ true → xs ≡ ahead xs z ++ z ∷ past xs z
split_at [] z h = absurd (false≢true h)
split_at (x ∷ xs) z h = by_go (eqb x z)
    (λ q. let same : x ≡ z = grind (arith, eqb_tells x z, q) in rw q (ap (λ y. y ∷ xs) same))
    (λ q. rw q (ap (λ ys. x ∷ ys) (split_at xs z (grind (arith, h, q)))))

pub ahead-append : (xs ys : List ℕ) (z : ℕ) → ahead (xs ++ ys) z ≡ cond (contains xs z) (ahead xs z) (xs ++ ahead ys z)
ahead-append [] ys z = refl
ahead-append (x ∷ xs) ys z = by_go (eqb x z) (λ q. rw q refl)
    (λ q. rw q (ap (λ zs. x ∷ zs) (ahead-append xs ys z) ∙ by_go (contains xs z) (λ p. rw p refl) (λ p. rw p refl)))

pub past-append : (xs ys : List ℕ) (z : ℕ) → past (xs ++ ys) z ≡ cond (contains xs z) (past xs z ++ ys) (past ys z)
past-append [] ys z = refl
past-append (x ∷ xs) ys z = by_go (eqb x z) (λ q. rw q refl) (λ q. rw q (past-append xs ys z))

-- z itself doesn't stand before it
pub ahead_other : (xs : List ℕ) (z y : ℕ) → contains (ahead xs z) y ≡ true → eqb y z ≡ false
ahead_other [] z y h = absurd (false≢true h)
ahead_other (x ∷ xs) z y h = grind (arith, h, eqb_tells x z, eqb_tells y z, eqb_tells x y, ahead_other xs z y)

pub ahead_in : (xs : List ℕ) (z y : ℕ) → contains (ahead xs z) y ≡ true → contains xs y ≡ true
ahead_in [] z y h = absurd (false≢true h)
ahead_in (x ∷ xs) z y h = grind (arith, h, eqb_tells x z, eqb_tells x y, ahead_in xs z y)

pub past_in : (xs : List ℕ) (z y : ℕ) → contains (past xs z) y ≡ true → contains xs y ≡ true
past_in [] z y h = absurd (false≢true h)
past_in (x ∷ xs) z y h = grind (arith, h, eqb_tells x z, eqb_tells x y, past_in xs z y)

-- ---- from the back

pub step_back : {A : Type 0} (xs : List A) (i j : ℕ) (x : A) → i ≡ j + 1 → i ≤ length xs → x ≡ get_or xs j x → drop j xs ≡ x ∷ drop i xs
step_back xs i j x e l g =
    let same : i ≡ suc j = omega (arith, e) in
    drop-cons xs j x (omega (arith, e, l)) ∙ (ap (λ y. y ∷ drop (suc j) xs) (sym g) ∙ ap (λ k. x ∷ drop k xs) (sym same))
