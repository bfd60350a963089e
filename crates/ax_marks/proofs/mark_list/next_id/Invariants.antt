use Rattle.std.proofs.Common.{ℕ, ◌≡◌, ◌≤◌, ◌<◌, ◌-◌, length, Some, None, slice_get}
use Rattle.ax_marks.proofs.mark_list.next_id.Given as goal

abbrev pub invariant-loop-i : goal.invariant-loop-i
invariant-loop-i l = record {
  above : l.from ≤ l.i;
  passed : (k : ℕ) → l.from ≤ k → k < l.i → slice_get l.order k ≡ Some None;
}

abbrev pub decreases-loop-i : goal.decreases-loop-i
decreases-loop-i l = length l.order - l.i
