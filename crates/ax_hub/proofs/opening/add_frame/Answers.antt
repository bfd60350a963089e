use Rattle.ax_hub.proofs.FirstSeats.{frame_seat_new}
use Rattle.ax_hub.proofs.opening.add_frame.Goals as goal

pub invariant_of-seat : goal.invariant_of-seat
invariant_of-seat c =
    frame_seat_new c.in_ok-turn.turn c.len-at.result c.args.tree c.in_ok-turn.own c.args.tx c.in_ok-turn.ensures.own c.requires c.in_ok-turn.ensures.turn.1
