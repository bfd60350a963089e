use Rattle.std.proofs.Common.{◌≡◌, ◌+◌}
use Rattle.ax_stays.specs.Makers.{new_seat}
use Rattle.ax_hub.specs.Opening.{AreNewReaders}
use Rattle.ax_hub.proofs.opening.reader_seats.Given as goal

abbrev pub invariant-loop-at : goal.invariant-loop-at
invariant-loop-at l = record {
  seats : AreNewReaders l.turn 1 l.at l.seats.items;
  rest : l.rest ≡ new_seat l.turn (l.at + 1) (l.fn.readers + 1);
}
