-- What a combined tree is seen as, and how its nodes are kept.
use Rattle.std.specs.Prelude.{ℕ, zero, suc, ◌≡◌, ◌<◌, ◌^◌, List, [], ◌∷◌, length, Option, None, option_map, option_and_then, slice_get, refl}
use Rattle.std.specs.Coded.{Coded, code_by, coded×, coded_list}
use Rattle.ax_base.specs.declared.position.Place.{Place}
use Rattle.ax_node.specs.Look.{Look, coded_look}
use Rattle.ax_node.specs.declared.tree_data.TreeData.{TreeData}
use Rattle.ax_node.specs.contracts.tree_data.TreeData.{the_row}
use Rattle.ax_trees.specs.Trees.{Trees, IsTree, count, roots}
use Rattle.ax_trees.specs.Nodes.{Node, node_at, parent}
use Rattle.ax_trees.specs.Spots.{grown}
use Rattle.ax_trees.specs.Code.{coded_trees}
use Rattle.ax_tree.specs.Tree.{Tree, as_node, data_of}
use Rattle.ax_rules.specs.Stitched.{Placed, places, parent_of}
use Rattle.ax_rules.specs.Combined.{number_of, combined_node}
use Rattle.ax_combine.specs.declared.nodes.Row.{Row}
use Rattle.ax_combine.specs.Numbering.{coded_place}

-- a tree, and the places of its nodes in their order
pub record Joined : Type 0 where
  pub tree : Tree
  pub places : List Place

abbrev pub coded_joined : Coded Joined
coded_joined =
    code_by ((TreeData × Trees Look) × List Place) (coded× (coded× the_row.coded (coded_trees coded_look)) (coded_list coded_place))
    (λ j. ((j.tree.about, j.tree.trees), j.places)) (λ p. record { tree = record { about = p.0.0; trees = p.0.1 }; places = p.1 }) (λ _. refl)

-- the node of a place by its number, and the number above it
abbrev pub row_of : List Placed → ℕ × Placed → Row
row_of l s = record { node = data_of (combined_node l s); above = option_and_then (number_of (places l)) (parent_of s.1) }

-- what the rows have at a number, from 1
abbrev pub row_at : List Row → ℕ → Option Row
row_at rows zero = None
row_at rows (suc k) = slice_get rows k

abbrev pub node_in : List Row → ℕ → Option (Node Look)
node_in rows z = option_map (λ (r : Row). as_node r.node) (row_at rows z)

abbrev pub above_in : List Row → ℕ → Option ℕ
above_in rows z = option_and_then (λ (r : Row). r.above) (row_at rows z)

-- the root is the first row's
abbrev pub first_number : List Row → List ℕ
first_number [] = []
first_number (r ∷ rows) = 1 ∷ []

-- the trees that the rows show
abbrev pub kept_trees : List Row → Trees Look
kept_trees rows = grown (node_in rows) (length rows) (first_number rows)

-- the rows keep the tree w, whose nodes are those of the places
pub record IsKept (rows : List Row) (ps : List Place) (w : Trees Look) : Type 0 where
  pub is_tree : IsTree w
  pub nodes : (z : ℕ) → node_at w z ≡ node_in rows z
  pub above : (z : ℕ) → parent w z ≡ above_in rows z
  pub tops : roots w ≡ first_number rows
  pub counts : count w ≡ length rows
  pub long : length rows ≡ length ps
  pub few : length ps < 2 ^ 31
