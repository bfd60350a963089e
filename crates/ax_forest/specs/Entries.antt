-- Asks, ends and probes: when each is answered so, and which of them add their entry to the history.
use Rattle.std.specs.Prelude.{ℕ, ◌≡◌, Bool, true, false, if◌then◌else◌, List, [], ◌∷◌, ◌++◌, Result, Ok, Err}
use Rattle.ax_trees.specs.Trees.{count}
use Rattle.ax_trees.specs.Lists.{contains}
use Rattle.ax_tree.specs.declared.packet.HEntry.{HEntry}
use Rattle.ax_tree.specs.declared.update.TreeUpdate.{TreeUpdate}
use Rattle.ax_tree.specs.declared.update.Refusal.TheVariants as refusal
use Rattle.ax_tree.specs.Tree.{Tree}
use Rattle.ax_tree.specs.Updates.{applied}
use Rattle.ax_rules.specs.Histories.{is_gone}
use Rattle.ax_forest.specs.declared.answers.ForestErr.{ForestErr}
use Rattle.ax_forest.specs.declared.answers.ForestErr.TheVariants.{NoTree, AlreadyGone, Refused, NoMemory}
use Rattle.ax_forest.specs.declared.answers.ProbeOut.{ProbeOut}
use Rattle.ax_forest.specs.declared.answers.ProbeOut.TheVariants as probe
use Rattle.ax_forest.specs.Past.{Past}

-- the refusal of a tree that had ended adds the entry, and no other refusal does
abbrev pub adds : {A : Type 0} → Result A ForestErr → Bool
adds (Ok a) = true
adds (Err (NoTree t)) = false
adds (Err (AlreadyGone t)) = true
adds (Err (Refused e)) = false
adds (Err NoMemory) = false

abbrev pub history_after : {A : Type 0} → Result A ForestErr → HEntry → List HEntry → List HEntry
history_after r e h = if adds r then h ++ e ∷ [] else h

-- the past after a call with the entry e that answers r
abbrev pub past_after : {A : Type 0} → Result A ForestErr → HEntry → Past → Past
past_after r e p = record p { history = history_after r e p.history }

-- a call at the tree t is answered by what the tree is: strange, live or ended
abbrev pub IsAnswer : {A : Type 0} → List ℕ → List HEntry → ℕ → Result A ForestErr → Type 0
IsAnswer ts h t (Ok a) = (contains ts t ≡ true) × (is_gone h t ≡ false)
IsAnswer ts h t (Err (NoTree u)) = (u ≡ t) × (contains ts t ≡ false)
IsAnswer ts h t (Err (AlreadyGone u)) = (u ≡ t) × (contains ts t ≡ true) × (is_gone h t ≡ true)
IsAnswer ts h t (Err (Refused e)) = ⊥
IsAnswer ts h t (Err NoMemory) = contains ts t ≡ true

-- the update rule gives a tree of n nodes
pub record GivesNodes (u : TreeUpdate) (m : Tree) (n : ℕ) : Type 0 where
  pub next : Tree
  pub gives : applied u m ≡ Ok next
  pub nodes : n ≡ count next.trees

-- what the update rule makes of the update on the tree m
abbrev pub IsProbed : TreeUpdate → Tree → ProbeOut → Type 0
IsProbed u m (probe.Accepted n) = GivesNodes u m n
IsProbed u m (probe.Refused r) = (applied u m ≡ Err r) × (r ≡ refusal.NoMemory → ⊥)
