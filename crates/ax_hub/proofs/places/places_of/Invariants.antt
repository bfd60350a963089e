use Rattle.std.proofs.Common.{◌≡◌, length}
use Rattle.ax_hub.proofs.Placing.{PlacedTo}
use Rattle.ax_hub.proofs.places.places_of.Given as goal

abbrev pub invariant-loop-at : goal.invariant-loop-at
invariant-loop-at l = record {
  size : length l.places.items ≡ 1001;
  placed : PlacedTo l.trees l.places.items l.at;
}
