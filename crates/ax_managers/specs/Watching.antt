-- The ids of a tree that are watched: as long as none of them is touched, each named tree keeps its host.
use Rattle.std.specs.Prelude.{ℕ, ◌≡◌, Bool, true, false, nat_eq, List, Some}
use Rattle.ax_trees.specs.Trees.{has, root_of}
use Rattle.ax_trees.specs.Lists.{contains}
use Rattle.ax_trees.specs.Nodes.{parent}
use Rattle.ax_tree.specs.Tree.{Tree, IsWellFormed}
use Rattle.ax_managers.specs.Naming.{named_at}

-- Where two nodes of m name the same tree, both are watched; and with a node all above it.
pub record IsWatching (m : Tree) (w : ℕ → Bool) : Type 0 where
  pub well_formed : IsWellFormed m
  pub there : (z : ℕ) → w z ≡ true → has m.trees z ≡ true
  pub upward : (z y : ℕ) → w z ≡ true → parent m.trees z ≡ Some y → w y ≡ true
  pub contested : (z y u : ℕ) → named_at m z ≡ Some u → named_at m y ≡ Some u → nat_eq z y ≡ false → w z ≡ true

-- No watched id is touched, and the root of the tree m is watched where any id is.
pub record IsCalm (m : Tree) (w : ℕ → Bool) (touched : List ℕ) : Type 0 where
  pub untouched : (z : ℕ) → contains touched z ≡ true → w z ≡ false
  pub root : (r z : ℕ) → root_of m.trees ≡ Some r → w z ≡ true → w r ≡ true
