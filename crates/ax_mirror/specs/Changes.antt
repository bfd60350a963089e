-- What the data of a node change about its children.
use Rattle.std.specs.Prelude.{ℕ, suc, ◌≡◌, List, [], nat_eq, reverse, Some, None}
use Rattle.std.specs.HashSet as bag
use Rattle.ax_trees.specs.Lists.{contains}
use Rattle.ax_tree.specs.UpdateRule.{first_repeated}
use Rattle.ax_tree.specs.declared.update.Refusal.{Refusal}
use Rattle.ax_tree.specs.declared.update.Refusal.TheVariants.{DuplicateChild}
use Rattle.ax_mirror.specs.declared.entries.Entry.{Entry}
use Rattle.ax_mirror.specs.declared.stepping.Change.{Change}
use Rattle.ax_mirror.specs.Steps.{unlisted}

-- the change from the children of an entry to the listed ones, of which none stands twice
pub record IsChange (e : Entry) (ids : List ℕ) (c : Change) : Type 0 where
  pub once : first_repeated [] ids ≡ None
  pub old : (z : ℕ) → bag.contains nat_eq c.old z ≡ contains e.node.children z
  pub gone : reverse c.gone ≡ unlisted (contains ids) e.node.children
  pub above : c.above ≡ e.above
  pub level : c.level ≡ e.level
  pub inner : c.inner ≡ suc e.level

-- a child stands twice
abbrev pub RepeatsChild : List ℕ → Refusal → Type 0
RepeatsChild ids r = (z : ℕ) × (first_repeated [] ids ≡ Some z) × (r ≡ DuplicateChild z)
