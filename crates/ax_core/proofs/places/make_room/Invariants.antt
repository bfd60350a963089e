use Rattle.std.proofs.Common.{◌≡◌, ◌≤◌, ℕ, length}
use Rattle.ax_forest.specs.ById.{at_id}
use Rattle.ax_core.proofs.places.make_room.Given as goal

abbrev pub invariant-loop-at : goal.invariant-loop-at
invariant-loop-at l = record {
  grown : l._at ≤ length l.table;
  same : (u : ℕ) → at_id l.table u ≡ at_id l.initial.table u;
}
