-- Reached, plain and closed as sets over whole trees: what the tests of the serialisation rule say.
use Rattle.std.specs.Prelude.{ℕ, ◌≡◌, Bool, true}
use Rattle.ax_trees.specs.Trees.{Trees, has, has_root}
use Rattle.ax_trees.specs.Nodes.{below}

-- the least set that has a and, with each member, those of its children in s through which reach goes on
pub data IsReached {X : Type 0} (s : Trees X) (go : ℕ → Bool) (a : ℕ) : ℕ → Type 0 where
  start : IsReached s go a a
  child : {y : ℕ} (z : ℕ) → IsReached s go a y → has_root (below s y) z ≡ true → go z ≡ true → IsReached s go a z

-- each child in s of a reached node, where c has it, stands under that node in c
pub record FitsReached {X E : Type 0} (c : Trees E) (s : Trees X) (go : ℕ → Bool) (a : ℕ) : Type 0 where
  pub under : (y z : ℕ) → IsReached s go a y → has_root (below s y) z ≡ true → has c z ≡ true → has_root (below c y) z ≡ true

-- each id below y in s, where c has it, stands below y in c
pub record IsClosed {X E : Type 0} (c : Trees E) (s : Trees X) (y : ℕ) : Type 0 where
  pub within : (z : ℕ) → has (below s y) z ≡ true → has c z ≡ true → has (below c y) z ≡ true
