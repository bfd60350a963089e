use Rattle.std.proofs.Common.{◌≡◌}
use Rattle.ax_lane_uses.proofs.three.take_all.Given as goal

abbrev pub invariant-loop : goal.invariant-loop
invariant-loop g l = record {
  of : l.rx.lane ≡ l.lane;
  got : l.rx.got ≡ l.taken.items;
}
