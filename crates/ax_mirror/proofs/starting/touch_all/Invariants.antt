use Rattle.std.proofs.Common.{◌≡◌, ◌≤◌, ℕ, true, ◌||◌, length}
use Rattle.std.specs.Prelude.{Option, is_some}
use Rattle.std.specs.FinMap as map
use Rattle.ax_node.specs.Look.{Look}
use Rattle.ax_trees.specs.Trees.{Trees}
use Rattle.ax_trees.specs.Lists.{contains}
use Rattle.ax_mirror.specs.Kept.{KeepsDraft}
use Rattle.ax_mirror.proofs.Begins.{Unseen}
use Rattle.ax_mirror.proofs.starting.touch_all.Given as goal

abbrev pub invariant-loop-round : goal.invariant-loop-round
invariant-loop-round l = record {
  nodes : l.draft.nodes ≡ l.fn.draft.nodes;
  root : l.draft.root ≡ l.fn.draft.root;
  made : l.draft.made ≡ l.fn.draft.made;
  grows : (z : ℕ) → contains l.fn.draft.touched z ≡ true → contains l.draft.touched z ≡ true;
  longer : length l.fn.draft.touched ≤ length l.draft.touched;
  only : (z : ℕ) → contains l.draft.touched z ≡ true → (contains l.fn.draft.touched z || is_some (map.get l.fn.draft.nodes z)) ≡ true;
  walk : (w : Trees (Option Look)) → KeepsDraft l.fn.draft.nodes l.fn.draft.root w → Unseen w l.fn.draft.nodes l.draft.touched l.stack;
}
