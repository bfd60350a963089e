-- When a receiver's trees r fit a source s with the marks m, and which marks an update leaves.
use Rattle.std.specs.Prelude.{ℕ, ◌≡◌, ◌≤◌, Bool, true, false, not, ◌||◌, ◌==◌, List, [], ◌∷◌, filter, Some}
use Rattle.ax_trees.specs.Trees.{Trees, IsTree, has, height, root_of}
use Rattle.ax_trees.specs.Nodes.{Node, node_at}
use Rattle.ax_trees.specs.Lists.{contains, NoneTwice}
use Rattle.ax_tree.specs.UpdateRule.{Update}

pub record TreesInStep {X : Type 0} (r s : Trees X) (m : List ℕ) : Type 0 where
  pub receiver : IsTree r
  pub source : IsTree s
  pub receiver_low : height r ≤ 256
  pub source_low : height s ≤ 256
  -- each mark is an id of the source, and none repeats
  pub marks_in : (z : ℕ) → contains m z ≡ true → has s z ≡ true
  pub once : NoneTwice m
  -- a receiver that isn't empty has the source's root, or that root is marked
  pub root_fits : (y : ℕ) → root_of r ≡ Some y → (z : ℕ) × (root_of s ≡ Some z) × (contains m z ≡ false → z ≡ y)
  -- an id of both that isn't marked has the same node in both
  pub same : (z : ℕ) → has r z ≡ true → has s z ≡ true → contains m z ≡ false → node_at r z ≡ node_at s z

-- z is one of the listed ids
abbrev pub lists : {X : Type 0} → List (Node X) → ℕ → Bool
lists [] z = false
lists (n ∷ ns) z = n.id == z || lists ns z

-- the marks that an update at d leaves
abbrev pub marks_left : {X : Type 0} → Update X → ℕ → List ℕ → List ℕ
marks_left u d m = filter (λ z. not (lists u.nodes z || z == d)) m
