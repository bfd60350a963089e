-- Words on lists of places and of numbers.
use Rattle.std.specs.Prelude.{ℕ, ◌≡◌, ◌≤◌, ◌<◌, true, false, List, [], ◌∷◌, Option, Some, None}
use Rattle.std.specs.List.{All, Contains}
use Rattle.std.proofs.Math.Utf8.{scalars}
use Rattle.ax_base.specs.declared.position.Place.{Place}
use Rattle.ax_rules.specs.Looks.{same_place, name_text}
use Rattle.ax_rules.specs.Stitched.{Placed}
use Rattle.ax_rules.specs.StitchedTree.{PlacedLook, joined_at, joined_from}
use Rattle.ax_trees.specs.Trees.{Trees}
use Rattle.ax_tree.specs.Forest.{Forest, hosted_by}

-- P holds of each element
abbrev pub EachOf : {A : Type 0} → (A → Type 0) → List A → Type 0
EachOf P [] = Unit {0}
EachOf P (x ∷ xs) = P x × EachOf P xs

-- no place stands twice
abbrev pub NoPlaceTwice : List Placed → Type 0
NoPlaceTwice [] = Unit {0}
NoPlaceTwice (x ∷ l) = EachOf (λ (s : Placed). same_place x.place s.place ≡ false) l × NoPlaceTwice l

-- what hangs at a place, as a tree, where n levels are shown below it
abbrev pub hung_tree : ℕ → Forest → Place → Trees PlacedLook
hung_tree n f q = joined_at (joined_from n f) (hosted_by f q)

-- each name is text: its numbers are Unicode scalar values
abbrev pub NamesAreText : List Placed → Type 0
NamesAreText l = EachOf (λ (s : Placed). scalars (name_text s.look) ≡ true) l

-- each number is at least those before it
abbrev pub Ascends : List ℕ → Type 0
Ascends [] = Unit {0}
Ascends (x ∷ xs) = EachOf (λ y. x ≤ y) xs × Ascends xs

-- b is the least number above g of a list
pub record IsLeastAbove (g : ℕ) (xs : List ℕ) (b : ℕ) : Type 0 where
  pub listed : Contains xs b
  pub above : g < b
  pub least : All (λ c. g < c → b ≤ c) xs

-- the answer is that number, and none exactly where there is none
abbrev pub TheLeastAbove : ℕ → List ℕ → Option ℕ → Type 0
TheLeastAbove g xs None = All (λ c. c ≤ g) xs
TheLeastAbove g xs (Some b) = IsLeastAbove g xs b

-- b is the greatest number below g of a list
pub record IsGreatestBelow (g : ℕ) (xs : List ℕ) (b : ℕ) : Type 0 where
  pub listed : Contains xs b
  pub below : b < g
  pub greatest : All (λ c. c < g → c ≤ b) xs

abbrev pub TheGreatestBelow : ℕ → List ℕ → Option ℕ → Type 0
TheGreatestBelow g xs None = All (λ c. g ≤ c) xs
TheGreatestBelow g xs (Some b) = IsGreatestBelow g xs b
