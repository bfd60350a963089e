use Rattle.std.proofs.Common.{◌≡◌, ◌≤◌, ◌-◌, ◌++◌, true, length, take, drop}
use Rattle.ax_trees.specs.Lists.{contains}
use Rattle.ax_trees.specs.Spots.{removed}
use Rattle.ax_source.proofs.children.place_of.Given as goal

abbrev pub invariant-loop-at : goal.invariant-loop-at
invariant-loop-at l = record {
  within : l.at ≤ length l.ids;
  ahead : contains (drop l.at l.ids) l.id ≡ true;
  front : take l.at l.ids ++ removed l.id (drop l.at l.ids) ≡ removed l.id l.ids;
}

abbrev pub decreases-loop-at : goal.decreases-loop-at
decreases-loop-at l = length l.ids - l.at
