-- The stitched list is the pre-order of the stitched tree, with the places above.
use Rattle.std.proofs.Common.{ℕ, zero, suc, ◌≡◌, List, [], ◌∷◌, ◌++◌, refl, sym, ap, ◌∙◌, Option, Some, None, append_assoc, append-nil, flat_map, option_to_list}
use Rattle.ax_base.specs.declared.position.Place.{Place}
use Rattle.ax_node.specs.Look.{Look}
use Rattle.ax_trees.specs.Trees.{Trees, bare, tree}
use Rattle.ax_tree.specs.Tree.{Tree}
use Rattle.ax_tree.specs.Forest.{Forest, first_tree, live_tree, hosted_by}
use Rattle.ax_rules.specs.Stitched.{Placed, place_at, placed_in, placed_of, placed_from, placed_from_first, stitched}
use Rattle.ax_rules.specs.StitchedTree.{PlacedLook, beside, joined_in, joined_of, joined_at, joined_from, stitched_tree, tree_placed}

abbrev head : List Place → PlacedLook → Placed
head above x = record { place = x.place; above = above; look = x.look }

placed-beside : (above : List Place) (f g : Trees PlacedLook) → tree_placed above (beside f g) ≡ tree_placed above f ++ tree_placed above g
placed-beside above bare g = refl
placed-beside above (tree i x inner others) g =
    ap (λ l. head above x ∷ (tree_placed (x.place ∷ above) inner ++ l)) (placed-beside above others g)
    ∙ ap (λ l. head above x ∷ l) (sym (append_assoc (tree_placed (x.place ∷ above) inner) (tree_placed above others) (tree_placed above g)))

-- three parts of a list
three : (a b c p q r : List Placed) → a ≡ p → b ≡ q → c ≡ r → a ++ b ++ c ≡ p ++ q ++ r
three a b c p q r h k l = rw (h, k, l) refl

level : (hs : Place → List Place → List Placed) (ht : Place → Trees PlacedLook) → ((p : Place) (q : List Place) → hs p q ≡ tree_placed q (ht p))
    → (t : ℕ) (above : List Place) (f : Trees Look) → placed_in hs t above f ≡ tree_placed above (joined_in ht t f)
level hs ht h t above bare = refl
level hs ht h t above (tree i x inner others) =
    ap (λ l. head above (record { place = place_at t i; look = x }) ∷ l)
    (three (placed_in hs t (place_at t i ∷ above) inner) (hs (place_at t i) (place_at t i ∷ above)) (placed_in hs t above others)
    (tree_placed (place_at t i ∷ above) (joined_in ht t inner)) (tree_placed (place_at t i ∷ above) (ht (place_at t i))) (tree_placed above (joined_in ht t others))
    (level hs ht h t (place_at t i ∷ above) inner) (h (place_at t i) (place_at t i ∷ above)) (level hs ht h t above others))
    ∙ ap (λ l. head above (record { place = place_at t i; look = x }) ∷ (l ++ tree_placed above (joined_in ht t others))) (sym (placed-beside (place_at t i ∷ above) (joined_in ht t inner) (ht (place_at t i))))

level_of : (hs : Place → List Place → List Placed) (ht : Place → Trees PlacedLook) → ((p : Place) (q : List Place) → hs p q ≡ tree_placed q (ht p))
    → (t : ℕ) (above : List Place) (m : Option Tree) → placed_of hs t above m ≡ tree_placed above (joined_of ht t m)
level_of hs ht h t above None = refl
level_of hs ht h t above (Some m) = level hs ht h t above m.trees

hung : (above : List Place) (s : ℕ → List Placed) (f : ℕ → Trees PlacedLook) → ((c : ℕ) → s c ≡ tree_placed above (f c)) → (c : Option ℕ)
    → flat_map s (option_to_list c) ≡ tree_placed above (joined_at f c)
hung above s f h None = refl
hung above s f h (Some c) = append-nil (s c) ∙ h c

from_level : (n : ℕ) (f : Forest) (t : ℕ) (above : List Place) → placed_from n f t above ≡ tree_placed above (joined_from n f t)
from_level zero f t above = refl
from_level (suc n) f t above =
    level_of (λ p q. flat_map (λ c. placed_from n f c q) (option_to_list (hosted_by f p))) (λ p. joined_at (joined_from n f) (hosted_by f p))
    (λ p q. hung q (λ c. placed_from n f c q) (joined_from n f) (λ c. from_level n f c q) (hosted_by f p)) t above (live_tree f t)

from_first : (f : Forest) (t : Option ℕ) → placed_from_first f t ≡ tree_placed [] (joined_at (joined_from 8 f) t)
from_first f None = refl
from_first f (Some t) = from_level 8 f t []

pub stitched-tree : (f : Forest) → stitched f ≡ tree_placed [] (stitched_tree f)
unfolding stitched stitched_tree
stitched-tree f = from_first f (first_tree f)
