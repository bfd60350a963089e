use Rattle.std.proofs.Common.{◌≡◌}
use Rattle.ax_turn.proofs.turn.Turn.enter.Given as goal

abbrev pub invariant-loop : goal.invariant-loop
invariant-loop g l = (l.seat-inside.place.me ≡ l.initial.seat-inside.place.me) × (l.seat-inside.place.table_id ≡ l.initial.seat-inside.place.table_id)
