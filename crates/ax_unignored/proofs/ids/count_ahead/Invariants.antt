use Rattle.std.proofs.Common.{◌≡◌, ◌+◌, length, drop}
use Rattle.ax_stitch.specs.Orders.{ahead}
use Rattle.ax_unignored.proofs.ids.count_ahead.Given as goal

abbrev pub invariant-loop-other : goal.invariant-loop-other
invariant-loop-other l = record {
  index : l.count ≡ l.other-index;
  rest : length (ahead l.ids l.id) ≡ l.count + length (ahead (drop l.count l.ids) l.id);
}
