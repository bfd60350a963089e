-- How an update ends.
use Rattle.std.specs.Prelude.{ℕ, ◌≡◌, ◌≤◌, ◌⊎◌, Bool, true, false, if◌then◌else◌, List, Option, Some, None, Ok, Err}
use Rattle.std.specs.FinMap as fin
use Rattle.ax_node.specs.Look.{Look, blank_look}
use Rattle.ax_trees.specs.Trees.{Trees, height}
use Rattle.ax_trees.specs.Lists.{contains}
use Rattle.ax_tree.specs.declared.update.Refusal.{Refusal}
use Rattle.ax_tree.specs.UpdateRule.{least_pending, completed, finished}
use Rattle.ax_mirror.specs.declared.entries.Entry.{Entry}
use Rattle.ax_mirror.specs.Placed.{Nodes}
use Rattle.ax_mirror.specs.Kept.{KeepsDraft}
use Rattle.ax_mirror.specs.Steps.{Settled}

abbrev pub is_pending : Option Entry → Bool
is_pending None = false
is_pending (Some e) = e.pending

abbrev pub level_of : Option Entry → ℕ
level_of None = 0
level_of (Some e) = e.level

-- one of the listed ids that is pending
abbrev pub pends_among : Nodes → List ℕ → ℕ → Bool
pends_among m ids z = if contains ids z then is_pending (fin.get m z) else false

-- o is the least that passes
abbrev pub IsLeast : (ℕ → Bool) → Option ℕ → Type 0
IsLeast p None = (z : ℕ) → p z ≡ false
IsLeast p (Some x) = (p x ≡ true) × ((z : ℕ) → p z ≡ true → x ≤ z)

-- n is the greatest level of the listed ids, or 0
pub record IsDeepest (m : Nodes) (ids : List ℕ) (n : ℕ) : Type 0 where
  pub above : (z : ℕ) → contains ids z ≡ true → level_of (fin.get m z) ≤ n
  pub reached : (n ≡ 0) ⊎ ((z : ℕ) × (level_of (fin.get m z) ≡ n))

-- Where what wasn't made is settled, the rule accepts the draft as it stands, ..
abbrev pub Finished : Nodes → List ℕ → Type 0
Finished m made = (root : Option ℕ) (w : Trees (Option Look)) → KeepsDraft m root w → Settled m made
    → (least_pending w ≡ None) × (height w ≤ 256) × (finished blank_look w ≡ Ok (completed blank_look w))

-- .. or refuses it.
abbrev pub Unfinished : Nodes → List ℕ → Refusal → Type 0
Unfinished m made r = (root : Option ℕ) (w : Trees (Option Look)) → KeepsDraft m root w → Settled m made → finished blank_look w ≡ Err r
