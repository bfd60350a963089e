use Rattle.std.proofs.Common.{ap, inr, sym, ◌∙◌}
use Rattle.ax_hub.proofs.Readers.{joined_reader, joined_seat}
use Rattle.ax_hub.proofs.closing.join_reader.Goals as goal

pub join-requires-clause-seats : goal.join-requires-clause-seats
join-requires-clause-seats c = (c.requires.turns.0, ap (λ v. v.turn) c.reader.view_is ∙ c.requires.turns.1)

pub join-requires-clause-idle : goal.join-requires-clause-idle
join-requires-clause-idle c = (c.requires.seat.0, c.reader.invariant.idle)

pub join-requires-clause-beside : goal.join-requires-clause-beside
join-requires-clause-beside c = inr (c.reader.invariant.low ∙ (ap (λ v. v.number) c.reader.view_is ∙ sym c.requires.seat.2))

pub returns-clause-seat : goal.returns-clause-seat
returns-clause-seat c =
    joined_seat c.args.seat.now c.join.new.seat c.reader.inside.seat c.args.reader c.reader.inside.number c.reader.view_is c.reader.invariant c.requires.seat.1 c.requires.seat.2 c.requires.number c.join.ensures.seat c.join.ensures.first

pub returns-clause-history : goal.returns-clause-history
returns-clause-history c =
    joined_reader c.args.seat.now c.join.new.seat c.reader.inside.seat c.args.reader c.reader.inside.number c.reader.view_is c.reader.invariant c.requires.seat.1 c.requires.seat.2 c.requires.number c.join.ensures.first c.join.ensures.second
