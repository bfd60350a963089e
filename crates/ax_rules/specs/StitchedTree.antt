-- The stitched list as one tree, whose ids are numbers of places.
use Rattle.std.specs.Prelude.{ℕ, zero, suc, ◌+◌, ◌*◌, List, [], ◌∷◌, ◌++◌, Option, Some, None}
use Rattle.ax_base.specs.declared.position.Place.{Place}
use Rattle.ax_node.specs.Look.{Look}
use Rattle.ax_trees.specs.Trees.{Trees, bare, tree}
use Rattle.ax_tree.specs.Tree.{Tree}
use Rattle.ax_tree.specs.Forest.{Forest, first_tree, live_tree, hosted_by}
use Rattle.ax_rules.specs.Stitched.{Placed, place_at}

-- a place and what its node has
pub record PlacedLook : Type 0 where
  pub place : Place
  pub look : Look

-- one number for a place
abbrev pub place_number : Place → ℕ
place_number p = p.tree * 2147483648 + p.node

-- the trees of f and then those of g
abbrev pub beside : {X : Type 0} → Trees X → Trees X → Trees X
beside bare g = g
beside (tree i x inner others) g = tree i x inner (beside others g)

-- the trees f of the tree t, where `hung` gives the tree that hangs at a place
abbrev pub joined_in : (Place → Trees PlacedLook) → ℕ → Trees Look → Trees PlacedLook
joined_in hung t bare = bare
joined_in hung t (tree i x inner others) =
    tree (place_number (place_at t i)) (record { place = place_at t i; look = x })
    (beside (joined_in hung t inner) (hung (place_at t i))) (joined_in hung t others)

abbrev pub joined_of : (Place → Trees PlacedLook) → ℕ → Option Tree → Trees PlacedLook
joined_of hung t None = bare
joined_of hung t (Some m) = joined_in hung t m.trees

-- what stands there, and no tree where nothing does
abbrev pub joined_at : (ℕ → Trees PlacedLook) → Option ℕ → Trees PlacedLook
joined_at joined None = bare
joined_at joined (Some t) = joined t

abbrev pub joined_from : ℕ → Forest → ℕ → Trees PlacedLook
joined_from zero f t = bare
joined_from (suc n) f t = joined_of (λ p. joined_at (joined_from n f) (hosted_by f p)) t (live_tree f t)

unfoldable pub stitched_tree : Forest → Trees PlacedLook
stitched_tree f = joined_at (joined_from 8 f) (first_tree f)

-- its places in pre-order
abbrev pub tree_places : Trees PlacedLook → List Place
tree_places bare = []
tree_places (tree i x inner others) = x.place ∷ (tree_places inner ++ tree_places others)

-- its places in pre-order with the places above them, the nearest first
abbrev pub tree_placed : List Place → Trees PlacedLook → List Placed
tree_placed above bare = []
tree_placed above (tree i x inner others) = record { place = x.place; above = above; look = x.look } ∷ (tree_placed (x.place ∷ above) inner ++ tree_placed above others)
