use Rattle.ax_hub.proofs.FirstSeats.{reader_next}
use Rattle.ax_hub.proofs.opening.reader_seats.Goals as goal

pub loop-at-preserved : goal.loop-at-preserved
loop-at-preserved c =
    let l = c.loop-at in
    let next = reader_next c.args.turn.now c.args.readers l.at l.seats.items c.push.new.self.items l.rest c.split.new.seat c.in_ok-later.later c.replace-seat.result c.replace-seat.new.dest
    l.invariant.rest c.split.ensures.kept c.in_ok-later.ensures.given c.replace-seat.ensures.value c.replace-seat.ensures.after c.in_ok-push.ensures.items l.invariant.seats in
    record { seats = next.0; rest = next.1 }
