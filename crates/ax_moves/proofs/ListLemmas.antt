-- The first that passes a test and the last one, in lists of bounds.
use Rattle.std.proofs.Common.{◌≡◌, Bool, true, false, List, [], ◌∷◌, ◌++◌, filter, find, refl, ap, ◌∙◌, Option, Some, None}
use Rattle.std.proofs.lemmas.List.Elements.{filter-append}
use Rattle.ax_trees.specs.Spots.{or_else}
use Rattle.ax_trees.proofs.Trees.{by_go}
use Rattle.ax_rules.specs.Sequences.{first_of, last_of}
use Rattle.ax_stitch.proofs.Lists.{last_of-append}
use Rattle.ax_place_laws.specs.Lists.{EachOf}

-- ---- the first

pub find-append : {A : Type 0} (p : A → Bool) (xs ys : List A) → find p (xs ++ ys) ≡ or_else (find p xs) (find p ys)
find-append p [] ys = refl
find-append p (x ∷ xs) ys = by_go (p x) (λ q. rw q refl) (λ q. rw q (find-append p xs ys))

pub find_none : {A : Type 0} (p : A → Bool) (xs : List A) → EachOf (λ x. p x ≡ false) xs → find p xs ≡ None
find_none p [] h = refl
find_none p (x ∷ xs) h = let a = h.0 in rw a (find_none p xs h.1)

pub find_first : {A : Type 0} (p : A → Bool) (xs : List A) → EachOf (λ x. p x ≡ true) xs → find p xs ≡ first_of xs
find_first p [] h = refl
find_first p (x ∷ xs) h = let a = h.0 in rw a refl

-- ---- the last

pub last_kept-append : {A : Type 0} (p : A → Bool) (xs ys : List A) → last_of (filter p (xs ++ ys)) ≡ or_else (last_of (filter p ys)) (last_of (filter p xs))
last_kept-append p xs ys = ap last_of (filter-append p xs ys) ∙ last_of-append (filter p xs) (filter p ys)

pub last_none : {A : Type 0} (p : A → Bool) (xs : List A) → EachOf (λ x. p x ≡ false) xs → last_of (filter p xs) ≡ None
last_none p [] h = refl
last_none p (x ∷ xs) h = let a = h.0 in rw a (last_none p xs h.1)

pub or_else_twice : {A : Type 0} (a b c : Option A) → or_else a (or_else b c) ≡ or_else (or_else a b) c
or_else_twice None b c = refl
or_else_twice (Some x) b c = refl
