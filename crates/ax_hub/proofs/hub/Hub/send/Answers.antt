use Rattle.ax_hub.proofs.Ends.{frame_seat_sent, may_send}
use Rattle.ax_hub.proofs.Turns.{lane_read, sent_from}
use Rattle.ax_hub.proofs.hub.Hub.send.Goals as goal

pub send_kept-requires-clause-lane : goal.send_kept-requires-clause-lane
send_kept-requires-clause-lane g c =
    let h = c.self.inside in let s = c.seat.inside in
    lane_read c.args.self.now h.frames.items h.forest h.lane c.self.view_is c.args.seat.now s.at s.seat s.tx s.kept c.seat.view_is c.requires

pub send_kept-requires-clause-next : goal.send_kept-requires-clause-next
send_kept-requires-clause-next g c = let s = c.seat.inside in may_send s.seat s.tx s.kept c.seat.invariant

pub invariant_of-seat : goal.invariant_of-seat
invariant_of-seat g c = let s = c.seat.inside in frame_seat_sent s.seat s.tx c.send_kept.new.tx s.kept c.send_kept.new.kept c.send_kept.result c.seat.invariant c.send_kept.ensures

pub returns : goal.returns
returns g c =
    let h = c.self.inside in let s = c.seat.inside in
    sent_from c.args.self.now h.frames.items h.forest h.lane c.self.view_is c.args.seat.now s.at s.seat s.tx s.kept c.seat.view_is c.requires c.send_kept.new.tx c.send_kept.new.kept c.send_kept.result c.send_kept.ensures
