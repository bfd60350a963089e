-- A combined tree as it is printed: node k is the k-th place of the joined list.
use Rattle.std.specs.Prelude.{ℕ, zero, suc, ◌+◌, ◌<◌, ◌^◌, ◌≡◌, true, is_some, List, [], codes, length, slice_get, Option, Some, None, option_map, option_and_then, unwrap_or}
use Rattle.std.specs.Fmt.{decimal}
use Rattle.ax_base.specs.declared.position.Place.{Place}
use Rattle.ax_trees.specs.Nodes.{parent}
use Rattle.ax_tree.specs.Tree.{Tree, node, data_of}
use Rattle.ax_tree.specs.Forest.{Forest, first_tree}
use Rattle.ax_rules.specs.Stitched.{Placed, stitched, places, parent_of}
use Rattle.ax_rules.specs.Combined.{number_of, combined_node, combined_data}
use Rattle.ax_run_rules.specs.Writing.{◌⌢◌, id_text, place_text}
use Rattle.ax_run_rules.specs.ReplyText.{role_text}
use Rattle.ax_run_rules.specs.CombineText.{node_line}

-- the place of a number, from 1
abbrev pub place_of_number : List Place → ℕ → Option Place
place_of_number ps zero = None
place_of_number ps (suc k) = slice_get ps k

-- the places are few enough to have numbers, and each number is a node's
pub record AreNodes (ps : List Place) (m : Tree) : Type 0 where
  pub few : length ps < 2 ^ 31
  pub nodes : (k : ℕ) → k < length ps → is_some (node m (k + 1)) ≡ true

-- the tree m with these places is the combined tree of the forest f
pub record IsCombined (f : Forest) (ps : List Place) (m : Tree) : Type 0 where
  pub first : first_tree f ≡ Some m.about.tree
  pub about : m.about ≡ combined_data f m.about.tree
  pub listed : ps ≡ places (stitched f)
  pub nodes : (k : ℕ) (s : Placed) → slice_get (stitched f) k ≡ Some s → node m (k + 1) ≡ Some (data_of (combined_node (stitched f) (k + 1, s)))
  pub parents : (k : ℕ) (s : Placed) → slice_get (stitched f) k ≡ Some s → parent m.trees (k + 1) ≡ option_and_then (number_of (places (stitched f))) (parent_of s)

-- a number, the number above it, its place and its role
unfoldable pub row_head : ℕ → Option ℕ → Place → ℕ → List ℕ
row_head i under p role = decimal i ⌢ codes " under " ⌢ id_text under ⌢ codes " from " ⌢ place_text p ⌢ codes " " ⌢ role_text role

-- the line of the place at an index
unfoldable pub row_text : List Placed → ℕ → List ℕ
row_text l k = unwrap_or (option_map (λ (s : Placed). node_line l (k + 1, s)) (slice_get l k)) []
