use Rattle.std.proofs.Common.{◌≡◌}
use Rattle.ax_turn_uses.specs.Numbers.{IsSeatFor, first_numbers, numbers_by}
use Rattle.ax_turn_uses.proofs.two.add_all.Given as goal

abbrev pub invariant-loop-number : goal.invariant-loop-number
invariant-loop-number g l = record {
  seat : IsSeatFor l.turn l.fn.by l.seat;
  so_far : numbers_by l.fn.by l.seat.seen ≡ first_numbers l.number;
}
