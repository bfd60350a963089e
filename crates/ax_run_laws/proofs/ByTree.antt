-- Lists of which each item has a tree: where no tree stands twice, each item is the first of its tree.
use Rattle.std.proofs.Common.{ℕ, ◌≡◌, ◌==◌, Bool, true, false, ◌||◌, if◌then◌else◌, List, [], ◌∷◌, map, find, refl, sym, ap, ◌∙◌, Some, arith, true≢false}
use Rattle.ax_trees.specs.Lists.{contains, NoneTwice}
use Rattle.ax_run_laws.proofs.Found.{same_number}

-- what holds of each item
abbrev pub Each : {X : Type 0} → (X → Type 0) → List X → Type 0
Each P [] = Unit {0}
Each P (x ∷ xs) = P x × Each P xs

module _ {X : Type 0} (tree : X → ℕ) where
  abbrev pub has_tree : ℕ → X → Bool
  has_tree t x = tree x == t

  abbrev pub IsFirst : List X → X → Type 0
  IsFirst xs x = find (has_tree (tree x)) xs ≡ Some x

  other_way : (a b : ℕ) → (a == b) ≡ false → (b == a) ≡ false
  other_way a b h = grind (arith, h)

  not_first : (x : X) (all xs : List X) → contains (map tree xs) (tree x) ≡ false → Each (IsFirst all) xs → Each (IsFirst (x ∷ all)) xs
  not_first x all [] n h = tt
  not_first x all (y ∷ xs) n h = go (tree y == tree x) refl n (λ m. not_first x all xs m h.1)
    where
      go : (b : Bool) → (tree y == tree x) ≡ b → (b || contains (map tree xs) (tree x)) ≡ false → (contains (map tree xs) (tree x) ≡ false → Each (IsFirst (x ∷ all)) xs) → Each (IsFirst (x ∷ all)) (y ∷ xs)
      go true e m ih = absurd (true≢false m)
      go false e m ih = (ap (λ c. if c then Some x else find (has_tree (tree y)) all) (other_way (tree y) (tree x) e) ∙ h.0, ih m)

  pub each_first : (xs : List X) → NoneTwice (map tree xs) → Each (IsFirst xs) xs
  each_first [] n = tt
  each_first (x ∷ xs) n = (ap (λ c. if c then Some x else find (has_tree (tree x)) xs) (same_number (tree x)), not_first x xs xs n.0 (each_first xs n.1))

  -- a tree of which an item is found is one of the list's
  pub there : (t : ℕ) (xs : List X) (x : X) → find (has_tree t) xs ≡ Some x → contains (map tree xs) t ≡ true
  there t [] x e = absurd (cc)
  there t (y ∷ xs) x e = go (tree y == t) e (λ k. there t xs x k)
    where
      go : (b : Bool) → (if b then Some y else find (has_tree t) xs) ≡ Some x → (find (has_tree t) xs ≡ Some x → contains (map tree xs) t ≡ true) → (b || contains (map tree xs) t) ≡ true
      go true k ih = refl
      go false k ih = ih k

  -- and of each tree of the list one is found
  pub one_of : (t : ℕ) (xs : List X) → contains (map tree xs) t ≡ true → (x : X) × (find (has_tree t) xs ≡ Some x)
  one_of t [] h = absurd (true≢false (sym h))
  one_of t (y ∷ xs) h = go (tree y == t) (λ k. one_of t xs k) h
    where
      go : (b : Bool) → (contains (map tree xs) t ≡ true → (x : X) × (find (has_tree t) xs ≡ Some x)) → (b || contains (map tree xs) t) ≡ true → (x : X) × ((if b then Some y else find (has_tree t) xs) ≡ Some x)
      go true ih k = (y, refl)
      go false ih k = ih k
