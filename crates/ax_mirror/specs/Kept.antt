-- When a map of entries keeps trees.
use Rattle.std.specs.Prelude.{ℕ, suc, ◌≡◌, ◌≤◌, Option, Some, None, option_to_list}
use Rattle.ax_node.specs.Look.{Look, blank_look}
use Rattle.ax_trees.specs.Trees.{Trees, bare, tree, roots, height, IsDistinct}
use Rattle.ax_trees.specs.Spots.{Stands, grown}
use Rattle.ax_tree.specs.UpdateRule.{draft_of, completed}
use Rattle.ax_mirror.specs.Placed.{Nodes, look, place}

-- each root stands under `above` at the level n, and each other node under its parent and one level deeper
abbrev pub Hung : {D : Type 0} → (ℕ → Option (Option ℕ × ℕ)) → Option ℕ → ℕ → Trees D → Type 0
Hung at above n bare = Unit {0}
Hung at above n (tree i x inner others) = (at i ≡ Some (above, n)) × Hung at (Some i) (suc n) inner × Hung at above n others

-- the map keeps the trees w, of which some nodes may be pending
pub record KeepsDraft (m : Nodes) (root : Option ℕ) (w : Trees (Option Look)) : Type 0 where
  pub distinct : IsDistinct w
  pub tops : roots w ≡ option_to_list root
  pub stands : Stands (look m) w
  pub hung : Hung (place m) None 1 w

-- the map keeps the trees f, none of which is pending, and no chain has more than 256 nodes
pub record HoldsTree (m : Nodes) (root : Option ℕ) (f : Trees Look) : Type 0 where
  pub keeps : KeepsDraft m root (draft_of f)
  pub low : height f ≤ 256

-- the trees that a map shows
abbrev pub shown : Nodes → Option ℕ → Trees Look
shown m root = completed blank_look (grown (look m) 256 (option_to_list root))
