use Rattle.ax_stays.proofs.Histories.{all_differ}
use Rattle.ax_hub.proofs.FirstSeats.{browser_of_hub, browser_seat_new, browser_view_new, frames_of_hub, hub_new, readers_of_hub}
use Rattle.ax_hub.proofs.Turns.{hub_view}
use Rattle.ax_hub.specs.Seats.{browser_seat_view}
use Rattle.std.proofs.Common.{None}
use Rattle.ax_hub.proofs.hub.Hub.new.Goals as goal

pub new-requires : goal.new-requires
new-requires g c = all_differ c.args.trees.now c.requires.once

pub invariant_of-result : goal.invariant_of-result
invariant_of-result g c =
    let s = c.in_ok-side.side in
    hub_new c.in_ok-lane.field-0.lane c.args.trees.now s.turns.items s.seats.items c.in_ok-forest.forest c.in_ok-places.places c.in_ok-side.ensures.seats c.in_ok-forest.ensures.turn.1 c.requires.once c.in_ok-places.ensures

pub invariant_of-result-2 : goal.invariant_of-result-2
invariant_of-result-2 g c =
    let s = c.in_ok-side.side in
    browser_seat_new (hub_view s.turns.items c.in_ok-forest.forest c.in_ok-lane.field-0.lane) c.args.trees.now c.in_ok-forest.seat c.in_ok-lane.field-0.taker s.deliveries.items
    c.in_ok-forest.ensures.turn.1 c.in_ok-forest.ensures.browser c.in_ok-lane.ensures.taker c.in_ok-side.ensures.deliveries

pub returns-clause-frame_seats : goal.returns-clause-frame_seats
returns-clause-frame_seats g c =
    let s = c.in_ok-side.side in
    frames_of_hub (hub_view s.turns.items c.in_ok-forest.forest c.in_ok-lane.field-0.lane) c.args.trees.now s.seats.items c.in_ok-side.ensures.seats

pub returns-clause-browser_seat : goal.returns-clause-browser_seat
returns-clause-browser_seat g c =
    let s = c.in_ok-side.side in
    browser_of_hub (hub_view s.turns.items c.in_ok-forest.forest c.in_ok-lane.field-0.lane) (browser_seat_view c.in_ok-forest.seat c.in_ok-lane.field-0.taker None s.deliveries.items)
    (browser_view_new (hub_view s.turns.items c.in_ok-forest.forest c.in_ok-lane.field-0.lane) c.args.trees.now c.in_ok-forest.seat c.in_ok-lane.field-0.taker s.deliveries.items
    c.in_ok-forest.ensures.turn.1 c.in_ok-forest.ensures.browser c.in_ok-lane.ensures.taker c.in_ok-side.ensures.deliveries)

pub returns-clause-reader_seats : goal.returns-clause-reader_seats
returns-clause-reader_seats g c =
    let s = c.in_ok-side.side in
    readers_of_hub (hub_view s.turns.items c.in_ok-forest.forest c.in_ok-lane.field-0.lane) c.args.readers c.in_ok-forest.readers.items c.in_ok-forest.ensures.readers
