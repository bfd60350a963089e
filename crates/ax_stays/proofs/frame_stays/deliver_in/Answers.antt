use Rattle.ax_stays.specs.FrameCalls.{delivery_entries}
use Rattle.ax_stays.proofs.Growing.{frame_leaves, frame_named, frame_stays, out_is}
use Rattle.ax_stays.proofs.Journals.{delivery_own}
use Rattle.ax_stays.proofs.frame_stays.deliver_in.Goals as goal

pub leave-requires-clause-grows : goal.leave-requires-clause-grows
leave-requires-clause-grows g c =
    frame_leaves 1 c.args.seat.now c.enter-round.new.seat c.enter-round.new.seat c.enter-round.result c.deliver-answer.new.self (delivery_entries c.args.n c.deliver-answer.result) c.requires.seat c.enter-round.ensures.seat c.deliver-answer.ensures (delivery_own c.args.n c.deliver-answer.result)

pub leave-requires-clause-name : goal.leave-requires-clause-name
leave-requires-clause-name g c =
    frame_named 1 c.args.seat.now c.enter-round.new.seat c.enter-round.new.seat c.enter-round.result c.deliver-answer.new.self (delivery_entries c.args.n c.deliver-answer.result) c.requires.seat c.enter-round.ensures.seat c.deliver-answer.ensures _ c.enter-round.ensures.name

pub returns-clause-seat : goal.returns-clause-seat
returns-clause-seat g c = out_is c.args.seat.now c.enter-round.new.seat c.leave.new.seat c.enter-round.result.journal c.deliver-answer.new.self.journal c.enter-round.ensures.seat c.requires.seat.idle c.leave.ensures

pub returns-clause-stay : goal.returns-clause-stay
returns-clause-stay g c =
    frame_stays 1 c.args.seat.now c.enter-round.new.seat c.leave.new.seat c.enter-round.result c.deliver-answer.new.self (delivery_entries c.args.n c.deliver-answer.result) c.requires.seat c.enter-round.ensures.seat c.deliver-answer.ensures
    (λ before. Unit {0}) c.enter-round.ensures.begins c.leave.ensures tt
