use Rattle.std.proofs.Common.{◌≡◌, ◌≤◌, ◌-◌, false}
use Rattle.std.specs.Prelude.{slice_range}
use Rattle.ax_trees.specs.Lists.{contains}
use Rattle.ax_client.proofs.parting.place_near.Given as goal

abbrev pub invariant-loop-at : goal.invariant-loop-at
invariant-loop-at l = record {
  above : l.fn.from ≤ l.at;
  within : l.at ≤ l.end;
  none : contains (slice_range l.ids l.fn.from l.at) l.fn.id ≡ false;
}

abbrev pub decreases-loop-at : goal.decreases-loop-at
decreases-loop-at l = l.end - l.at
