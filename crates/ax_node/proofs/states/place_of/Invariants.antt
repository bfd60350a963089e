use Rattle.std.proofs.Common.{ℕ, ◌≤◌, ◌<◌, ◌-◌, length, slice_index}
use Rattle.ax_node.proofs.states.place_of.Given as goal

abbrev pub invariant-loop-i : goal.invariant-loop-i
invariant-loop-i l = record {
  within : l.i ≤ length l.states;
  below : (k : ℕ) → k < l.i → slice_index l.states k < l.s;
}

abbrev pub decreases-loop-i : goal.decreases-loop-i
decreases-loop-i l = length l.states - l.i
