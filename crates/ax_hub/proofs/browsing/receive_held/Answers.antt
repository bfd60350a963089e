use Rattle.std.proofs.Common.{Some, subst, sym, ap}
use Rattle.ax_hub.specs.BrowserCalls.{HeldCanBeReceived}
use Rattle.ax_hub.proofs.Ends.{packet_held, packet_received, nothing_held}
use Rattle.ax_hub.proofs.browsing.receive_held.Goals as goal

pub receive_in-requires-clause-next : goal.receive_in-requires-clause-next
receive_in-requires-clause-next g c = subst (HeldCanBeReceived c.args.turn.now.name c.args.seat.now.seen) (sym c.in-Some.ensures.value) c.requires.next

pub returns-in-None : goal.returns-in-None
returns-in-None g c = nothing_held c.args.held.now c.take.new.self c.args.seat.now (sym c.in-None.ensures.value) c.take.ensures.after

pub returns-in-Ok : goal.returns-in-Ok
returns-in-Ok g c =
    packet_received c.args.held.now c.in-Some.packet c.args.seat.now c.receive_in.new.seat c.in-Ok.verdict c.take.new.self (sym c.in-Some.ensures.value) c.in-Ok.ensures.0 c.take.ensures.after c.in-Ok.ensures.1

pub returns-in-Err : goal.returns-in-Err
returns-in-Err g c =
    packet_held c.args.held.now c.in-Some.packet c.args.seat.now c.receive_in.new.seat _ _ (sym c.in-Some.ensures.value) (ap (λ p. Some p) c.in-Err.ensures.0) c.in-Err.ensures.1
