use Rattle.std.proofs.Common.{◌≤◌, length, nat_eq}
use Rattle.std.specs.HashMap.{get}
use Rattle.ax_combine.proofs.Maps.{Since}
use Rattle.ax_combine.proofs.numbering.numbers_of.Given as goal

abbrev pub invariant-loop-left : goal.invariant-loop-left
invariant-loop-left l = record {
  within : l.left ≤ length l.places;
  since : Since (get nat_eq l.numbers) l.places l.left;
}

abbrev pub decreases-loop-left : goal.decreases-loop-left
decreases-loop-left l = l.left
