-- How an update begins: what its root and its clear id take out.
use Rattle.std.specs.Prelude.{ℕ, ◌≡◌, ◌≤◌, Bool, true, false, ◌==◌, ◌||◌, if◌then◌else◌, is_some, length, Option, Some, None}
use Rattle.std.specs.FinMap as fin
use Rattle.ax_node.specs.Look.{Look}
use Rattle.ax_trees.specs.Trees.{Trees, has}
use Rattle.ax_trees.specs.Lists.{contains}
use Rattle.ax_mirror.specs.declared.draft.Draft.{Draft}
use Rattle.ax_mirror.specs.Placed.{Nodes}
use Rattle.ax_mirror.specs.Kept.{KeepsDraft}
use Rattle.ax_mirror.specs.Steps.{Tracked}

-- the id is this root
abbrev pub root_is : Option ℕ → ℕ → Bool
root_is None z = false
root_is (Some x) z = x == z

-- the root that an update begins with, where it isn't the root
abbrev pub anew_of : Option ℕ → Option ℕ → Option ℕ
anew_of o None = None
anew_of o (Some r) = if root_is o r then None else Some r

-- of all trees that the old draft keeps, the new one keeps what g makes
abbrev pub Turns : (Trees (Option Look) → Trees (Option Look)) → Draft → Draft → Type 0
Turns g d e = (w : Trees (Option Look)) → KeepsDraft d.nodes d.root w → KeepsDraft e.nodes e.root (g w)

-- what isn't touched stays, where the draft keeps trees
abbrev pub TrackedTrees : Draft → Draft → Type 0
TrackedTrees d e = (w : Trees (Option Look)) → KeepsDraft d.nodes d.root w → Tracked d e

-- each id of the trees is touched, and nothing else is changed
pub record TouchesAll (d e : Draft) : Type 0 where
  pub nodes : e.nodes ≡ d.nodes
  pub root : e.root ≡ d.root
  pub made : e.made ≡ d.made
  pub grows : (z : ℕ) → contains d.touched z ≡ true → contains e.touched z ≡ true
  pub longer : length d.touched ≤ length e.touched
  pub only : (z : ℕ) → contains e.touched z ≡ true → (contains d.touched z || is_some (fin.get d.nodes z)) ≡ true
  pub all : (w : Trees (Option Look)) → KeepsDraft d.nodes d.root w → (z : ℕ) → has w z ≡ true → contains e.touched z ≡ true

-- the id to clear, where it isn't in the map
abbrev pub missing_in : Nodes → Option ℕ → Option ℕ
missing_in m None = None
missing_in m (Some z) = if is_some (fin.get m z) then None else Some z

-- a draft of no node, in which all ids that the map kept are touched
pub record Forgets (m : Nodes) (root : Option ℕ) (d : Draft) : Type 0 where
  pub nodes : d.nodes ≡ fin.empty
  pub none : d.root ≡ None
  pub only : (z : ℕ) → contains d.touched z ≡ true → is_some (fin.get m z) ≡ true
  pub all : (w : Trees (Option Look)) → KeepsDraft m root w → (z : ℕ) → has w z ≡ true → contains d.touched z ≡ true
