-- The keys of a set of ids as a list in which none stands twice.
use Rattle.std.proofs.Common.{◌≡◌, ℕ, false, nat_eq, List, [], ◌∷◌, refl, arith}
use Rattle.std.proofs.lemmas.Bool.Decides.{eqb_tells}
use Rattle.std.specs.List.{list_any, IsDistinct, AllByRecursion}
use Rattle.ax_trees.specs.Lists.{contains, NoneTwice}

pub contains_any : (xs : List ℕ) (z : ℕ) → list_any (nat_eq z) xs ≡ contains xs z
contains_any [] z = refl
contains_any (x ∷ xs) z = grind (arith, contains_any xs z, eqb_tells x z, eqb_tells z x)

away : (x : ℕ) (xs : List ℕ) → AllByRecursion (λ y. nat_eq x y ≡ false) xs → contains xs x ≡ false
away x [] h = refl
away x (y ∷ xs) h = grind (arith, away x xs h.1, h.0, eqb_tells x y, eqb_tells y x)

pub none_twice : (xs : List ℕ) → IsDistinct nat_eq xs → NoneTwice xs
unfolding IsDistinct
none_twice [] h = tt
none_twice (x ∷ xs) h = (away x xs h.0, none_twice xs h.1)
