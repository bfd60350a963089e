-- What a combined tree is: one tree for all places of a forest's joined list.
use Rattle.std.specs.Prelude.{ℕ, ◌+◌, ◌≡◌, List, Some, option_and_then, slice_get}
use Rattle.ax_base.specs.declared.position.Place.{Place}
use Rattle.ax_trees.specs.Nodes.{parent}
use Rattle.ax_tree.specs.Forest.{Forest, first_tree}
use Rattle.ax_tree.specs.Tree.{Tree, IsWellFormed}
use Rattle.ax_tree.specs.SerialRule.{all_of}
use Rattle.ax_rules.specs.Stitched.{Placed, stitched, places, parent_of}
use Rattle.ax_rules.specs.Combined.{number_of, combined_nodes, combined_data}

-- the tree m with these places is the combined tree of the forest f
pub record IsCombined (f : Forest) (ps : List Place) (m : Tree) : Type 0 where
  pub formed : IsWellFormed m
  -- the nodes in pre-order are the rule's, so their ids are 1, 2, 3 and so on
  pub nodes : all_of m.trees ≡ combined_nodes f
  -- the tree data are the rule's
  pub first : first_tree f ≡ Some m.about.tree
  pub about : m.about ≡ combined_data f m.about.tree
  -- the places are those of the joined list, and each node stands under its place's parent
  pub listed : ps ≡ places (stitched f)
  pub parents : (k : ℕ) (s : Placed) → slice_get (stitched f) k ≡ Some s → parent m.trees (k + 1) ≡ option_and_then (number_of (places (stitched f))) (parent_of s)
