use Rattle.std.proofs.Common.{◌≡◌, ◌≤◌, ◌+◌, ℕ, ◌⊎◌, None, reverse, length}
use Rattle.std.specs.Prelude.{Option}
use Rattle.std.specs.FinMap as map
use Rattle.ax_node.specs.Look.{Look}
use Rattle.ax_trees.specs.Trees.{Trees, roots}
use Rattle.ax_mirror.specs.Steps.{TellsNodes, Tracked}
use Rattle.ax_mirror.specs.Accounts.{Accounts, no_id}
use Rattle.ax_mirror.proofs.Walks.{Left}
use Rattle.ax_mirror.proofs.removing.take_out.Given as goal

abbrev pub invariant-loop-id : goal.invariant-loop-id
invariant-loop-id g l = record {
  root : l.draft.root ≡ l.fn.draft.root;
  made : l.draft.made ≡ l.fn.draft.made;
  less : (z : ℕ) → (map.get l.draft.nodes z ≡ None) ⊎ (map.get l.draft.nodes z ≡ map.get l.fn.draft.nodes z);
  left : (k : Trees (Option Look)) → TellsNodes l.fn.draft.nodes k → roots k ≡ reverse l.fn.stack → Left k l.fn.draft.nodes l.draft.nodes l.stack;
  tracked : Tracked l.fn.draft l.draft;
  accounts : Accounts no_id no_id l.fn.draft l.draft;
  cost : l.steps + length l.fn.draft.touched ≤ l.fn.steps + length l.draft.touched;
}

abbrev pub decreases-loop-id : goal.decreases-loop-id
decreases-loop-id g l = map.len l.draft.nodes
