use Rattle.ax_core.proofs.Scripted.{puts_begun, puts_places, puts_onward}
use Rattle.ax_core.proofs.resuming.put_packets.Goals as goal

pub loop-packet-init : goal.loop-packet-init
loop-packet-init c = puts_begun c.args.seats.now.items

pub put_packet-requires-clause-places : goal.put_packet-requires-clause-places
put_packet-requires-clause-places c = puts_places c.loop-packet.yielded c.args.places.now c.args.seats.now.items c.loop-packet.seats.items c.requires.places c.loop-packet.invariant

pub loop-packet-preserved : goal.loop-packet-preserved
loop-packet-preserved c =
    puts_onward c.loop-packet.yielded c.in-Some.packet c.args.seats.now.items c.loop-packet.seats.items c.put_packet.new.seats.items c.loop-packet.invariant c.in_ok-put_packet.ensures.put
