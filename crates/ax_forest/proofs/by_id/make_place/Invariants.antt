use Rattle.std.proofs.Common.{◌≡◌, ◌≤◌, ℕ, length}
use Rattle.ax_forest.specs.ById.{at_id, KeepsPlaces}
use Rattle.ax_forest.proofs.by_id.make_place.Given as goal

abbrev pub invariant-loop-at : goal.invariant-loop-at
invariant-loop-at g l = record {
  grown : l._at ≤ length l.values;
  same : (u : ℕ) → at_id l.values u ≡ at_id l.initial.values u;
  places : KeepsPlaces l.initial.values l.values;
}
