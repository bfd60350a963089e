-- The stitched list: the places of all trees that hang together, in pre-order from the first tree's root. To eight levels of trees.
use Rattle.std.specs.Prelude.{ℕ, zero, suc, Bool, ◌||◌, List, [], ◌∷◌, ◌++◌, filter, find, map, flat_map, Option, Some, None, option_to_list}
use Rattle.std.specs.List.{list_any}
use Rattle.ax_base.specs.declared.position.Place.{Place}
use Rattle.ax_node.specs.Look.{Look}
use Rattle.ax_trees.specs.Trees.{Trees, bare, tree}
use Rattle.ax_trees.specs.Lists.{is_nil}
use Rattle.ax_tree.specs.Tree.{Tree}
use Rattle.ax_tree.specs.Forest.{Forest, first_tree, live_tree, hosted_by}
use Rattle.ax_rules.specs.Sequences.{first_of, second_of, last_of, front_of, until, since}
use Rattle.ax_rules.specs.Looks.{same_place}

-- a place of the list, the places above it, the nearest first, and what its node has
pub record Placed : Type 0 where
  pub place : Place
  pub above : List Place
  pub look : Look

abbrev pub place_at : ℕ → ℕ → Place
place_at t z = record { tree = t; node = z }

-- the trees f of the tree t below the places `above`, where `hung` gives the list of the tree that hangs at a place
abbrev pub placed_in : (Place → List Place → List Placed) → ℕ → List Place → Trees Look → List Placed
placed_in hung t above bare = []
placed_in hung t above (tree i x inner others) =
    record { place = place_at t i; above = above; look = x }
    ∷ (placed_in hung t (place_at t i ∷ above) inner ++ hung (place_at t i) (place_at t i ∷ above) ++ placed_in hung t above others)

abbrev pub placed_of : (Place → List Place → List Placed) → ℕ → List Place → Option Tree → List Placed
placed_of hung t above None = []
placed_of hung t above (Some m) = placed_in hung t above m.trees

-- the list from the tree t on, where so many levels are shown
abbrev pub placed_from : ℕ → Forest → ℕ → List Place → List Placed
placed_from zero f t above = []
placed_from (suc n) f t above = placed_of (λ p q. flat_map (λ c. placed_from n f c q) (option_to_list (hosted_by f p))) t above (live_tree f t)

abbrev pub placed_from_first : Forest → Option ℕ → List Placed
placed_from_first f None = []
placed_from_first f (Some t) = placed_from 8 f t []

unfoldable pub stitched : Forest → List Placed
stitched f = placed_from_first f (first_tree f)

-- ---- words on the list

abbrev pub places : List Placed → List Place
places l = map (λ (s : Placed). s.place) l

abbrev pub stands_at : Place → Placed → Bool
stands_at p s = same_place s.place p

unfoldable pub find_placed : List Placed → Place → Option Placed
find_placed l p = find (stands_at p) l

unfoldable pub has_place : List Placed → Place → Bool
has_place l p = list_any (stands_at p) l

abbrev pub parent_of : Placed → Option Place
parent_of s = first_of s.above

abbrev pub is_child : Place → Placed → Bool
is_child p s = list_any (same_place p) (front_of s.above)

unfoldable pub children_of : List Placed → Place → List Place
children_of l p = places (filter (is_child p) l)

-- the place itself or below it
unfoldable pub is_within : Place → Placed → Bool
is_within p s = same_place p s.place || list_any (same_place p) s.above

-- what stands before a place
unfoldable pub before : List Placed → Place → List Placed
before l p = until (stands_at p) l

-- the next place of a list of places, and the one before
unfoldable pub next_in : List Place → Place → Option Place
next_in l p = second_of (since (λ q. same_place q p) l)

unfoldable pub prev_in : List Place → Place → Option Place
prev_in l p = last_of (until (λ q. same_place q p) l)

-- a place without children
unfoldable pub is_leaf : List Placed → Placed → Bool
is_leaf l s = is_nil (children_of l s.place)

unfoldable pub leaves : List Placed → List Placed
leaves l = filter (is_leaf l) l
