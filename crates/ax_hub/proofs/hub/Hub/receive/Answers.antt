use Rattle.std.proofs.Common.{refl, subst}
use Rattle.ax_hub.specs.BrowserCalls.{HeldCanBeReceived}
use Rattle.ax_hub.specs.Receipts.{IsReceipt}
use Rattle.ax_hub.specs.Seats.{BrowserSeatView, browser_seat_view}
use Rattle.ax_hub.proofs.Browser.{browser_lane, browser_of, browser_turn, held_lane, receipt_turn}
use Rattle.ax_hub.proofs.Ends.{browser_held, browser_received, receipt}
use Rattle.ax_hub.proofs.hub.Hub.receive.Goals as goal

pub hold-requires : goal.hold-requires
hold-requires g c =
    let h = c.self.inside in let s = c.seat.inside in
    browser_lane c.args.self.now h.frames.items h.forest h.lane c.self.view_is c.args.seat.now s.seat s.rx s.held s.deliveries.items c.seat.view_is c.requires

pub receive_held-requires-clause-turn : goal.receive_held-requires-clause-turn
receive_held-requires-clause-turn g c =
    let h = c.self.inside in let s = c.seat.inside in
    browser_turn c.args.self.now h.frames.items h.forest h.lane c.self.view_is c.args.seat.now s.seat s.rx s.held s.deliveries.items c.seat.view_is c.requires

pub receive_held-requires-clause-seat : goal.receive_held-requires-clause-seat
receive_held-requires-clause-seat g c = c.seat.invariant.stands

pub receive_held-requires-clause-next : goal.receive_held-requires-clause-next
receive_held-requires-clause-next g c =
    let h = c.self.inside in let s = c.seat.inside in
    let turn = browser_turn c.args.self.now h.frames.items h.forest h.lane c.self.view_is c.args.seat.now s.seat s.rx s.held s.deliveries.items c.seat.view_is c.requires in
    subst (λ t. HeldCanBeReceived t.name s.seat.seen c.hold.new.held) turn (browser_held s.seat s.rx c.hold.new.rx s.deliveries.items s.held c.hold.new.held c.seat.invariant c.hold.ensures).next

pub invariant_of-seat : goal.invariant_of-seat
invariant_of-seat g c =
    let s = c.seat.inside in
    browser_received s.seat c.receive_held.new.seat c.hold.new.rx s.deliveries.items c.hold.new.held c.receive_held.new.held c.receive_held.result c.receive_held.ensures
    (browser_held s.seat s.rx c.hold.new.rx s.deliveries.items s.held c.hold.new.held c.seat.invariant c.hold.ensures)

pub returns-clause-of : goal.returns-clause-of
returns-clause-of g c =
    let h = c.self.inside in let s = c.seat.inside in
    browser_of c.args.self.now h.frames.items h.forest h.lane c.self.view_is c.args.seat.now s.seat s.rx s.held s.deliveries.items c.seat.view_is c.requires
    c.receive_held.new.seat c.hold.new.rx c.receive_held.new.held s.deliveries.items (receipt_turn c.hold.new.held c.receive_held.new.held s.seat c.receive_held.new.seat c.receive_held.result c.receive_held.ensures)
    (held_lane s.held c.hold.new.held s.rx c.hold.new.rx c.hold.ensures) refl

pub returns-clause-receipt : goal.returns-clause-receipt
returns-clause-receipt g c =
    let s = c.seat.inside in
    subst (λ (v : BrowserSeatView). IsReceipt v c.receive_held.result (browser_seat_view c.receive_held.new.seat c.hold.new.rx c.receive_held.new.held s.deliveries.items)) c.seat.view_is
    (receipt s.seat c.receive_held.new.seat s.rx c.hold.new.rx s.deliveries.items s.held c.hold.new.held c.receive_held.new.held c.receive_held.result c.hold.ensures c.receive_held.ensures)
