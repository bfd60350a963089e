use Rattle.std.proofs.Common.{◌≡◌, ◌<◌, false, set, vec_len, arith, refl, subst, ap, ◌∙◌}
use Rattle.ax_trees.specs.Lists.{contains}
use Rattle.ax_stays.specs.FrameCalls.{delivery_entries}
use Rattle.ax_hub.specs.Deliveries.{IsDelivery}
use Rattle.ax_hub.specs.Hubs.{HubView}
use Rattle.ax_hub.specs.Seats.{browser_seat_view}
use Rattle.ax_hub.proofs.Browser.{browser_frames, browser_of, delivered_seats, delivered_turns, delivery_told, delivery_there, delivery_turn, delivery_within, frame_within, told_to, tree_at}
use Rattle.ax_hub.proofs.hub.Hub.deliver.Goals as goal

pub returns-in_default-clause-told : goal.returns-in_default-clause-told
returns-in_default-clause-told g c =
    let h = c.self.inside in
    (refl, subst (λ ts. contains ts c.args.t ≡ false) (c.self.invariant.placed ∙ ap (λ v. v.forest.name) c.self.view_is) c.in_default.ensures, refl)

pub index-requires : goal.index-requires
index-requires g c =
    let h = c.self.inside in
    let within = frame_within h.frames.items h.forest h.places c.self.invariant c.in-Some.at c.args.t c.in-Some.ensures in
    let same = h.frames.ok.0 in
    let here : c.in-Some.at < vec_len h.frames = omega (arith, within, same) in here

pub index_mut-requires : goal.index_mut-requires
index_mut-requires g c =
    let h = c.self.inside in let s = c.seat.inside in
    let within =
    delivery_within h.frames.items h.forest h.places c.self.invariant c.in-Some.at c.args.t c.in-Some.ensures s.deliveries.items
    (browser_frames c.args.self.now h.frames.items h.forest h.lane c.self.view_is c.args.seat.now s.seat s.rx s.held s.deliveries.items c.seat.view_is c.requires)
    in
    let same = s.deliveries.ok.0 in
    let here : c.in-Some.at < vec_len s.deliveries = omega (arith, within, same) in here

pub deliver_in-answer-requires-clause-turn : goal.deliver_in-answer-requires-clause-turn
deliver_in-answer-requires-clause-turn g c =
    let h = c.self.inside in let s = c.seat.inside in
    delivery_turn h.frames.items h.forest h.places c.self.invariant c.in-Some.at c.args.t c.in-Some.ensures s.deliveries.items
    (browser_frames c.args.self.now h.frames.items h.forest h.lane c.self.view_is c.args.seat.now s.seat s.rx s.held s.deliveries.items c.seat.view_is c.requires)
    c.index.result.now c.index_mut.result.now c.index.ensures c.index_mut.ensures.value

pub deliver_in-answer-requires-clause-seat : goal.deliver_in-answer-requires-clause-seat
deliver_in-answer-requires-clause-seat g c =
    let h = c.self.inside in let s = c.seat.inside in
    c.seat.invariant.delivers c.in-Some.at c.index_mut.result.now
    (delivery_there h.frames.items h.forest h.places c.self.invariant c.in-Some.at c.args.t c.in-Some.ensures s.deliveries.items
    (browser_frames c.args.self.now h.frames.items h.forest h.lane c.self.view_is c.args.seat.now s.seat s.rx s.held s.deliveries.items c.seat.view_is c.requires)
    c.index_mut.result.now c.index_mut.ensures.value)

-- ---- the seat in the frame's turn, after the stay

pub invariant_of-seat : goal.invariant_of-seat
invariant_of-seat g c =
    let h = c.self.inside in let s = c.seat.inside in
    delivered_seats s.seat s.rx s.held s.deliveries.items c.in-Some.at c.index_mut.result.now c.deliver_in-answer.new.seat
    (delivery_there h.frames.items h.forest h.places c.self.invariant c.in-Some.at c.args.t c.in-Some.ensures s.deliveries.items
    (browser_frames c.args.self.now h.frames.items h.forest h.lane c.self.view_is c.args.seat.now s.seat s.rx s.held s.deliveries.items c.seat.view_is c.requires)
    c.index_mut.result.now c.index_mut.ensures.value)
    c.deliver_in-answer.ensures.seat c.seat.invariant

pub returns-clause-of : goal.returns-clause-of
returns-clause-of g c =
    let h = c.self.inside in let s = c.seat.inside in
    browser_of c.args.self.now h.frames.items h.forest h.lane c.self.view_is c.args.seat.now s.seat s.rx s.held s.deliveries.items c.seat.view_is c.requires
    s.seat s.rx s.held (set s.deliveries.items c.in-Some.at c.deliver_in-answer.new.seat) refl refl
    (delivered_turns s.deliveries.items c.in-Some.at c.index_mut.result.now c.deliver_in-answer.new.seat
    (delivery_there h.frames.items h.forest h.places c.self.invariant c.in-Some.at c.args.t c.in-Some.ensures s.deliveries.items
    (browser_frames c.args.self.now h.frames.items h.forest h.lane c.self.view_is c.args.seat.now s.seat s.rx s.held s.deliveries.items c.seat.view_is c.requires)
    c.index_mut.result.now c.index_mut.ensures.value)
    c.deliver_in-answer.ensures.seat)

pub returns-clause-told : goal.returns-clause-told
returns-clause-told g c =
    let h = c.self.inside in let s = c.seat.inside in
    subst (λ (v : HubView). IsDelivery v.forest.name c.args.t c.args.n c.args.seat.now c.told.result (browser_seat_view s.seat s.rx s.held (set s.deliveries.items c.in-Some.at c.deliver_in-answer.new.seat))) c.self.view_is
    (delivery_told h.forest.name c.args.t c.args.n c.deliver_in-answer.result c.told.result c.args.seat.now (browser_seat_view s.seat s.rx s.held (set s.deliveries.items c.in-Some.at c.deliver_in-answer.new.seat)) c.told.ensures
    (told_to h.forest.name c.args.t c.in-Some.at (delivery_entries c.args.n c.deliver_in-answer.result) c.args.seat.now s.seat s.rx s.held s.deliveries.items c.index_mut.result.now c.deliver_in-answer.new.seat c.seat.view_is
    (tree_at h.frames.items h.forest h.places c.self.invariant c.in-Some.at c.args.t c.in-Some.ensures)
    (delivery_there h.frames.items h.forest h.places c.self.invariant c.in-Some.at c.args.t c.in-Some.ensures s.deliveries.items
    (browser_frames c.args.self.now h.frames.items h.forest h.lane c.self.view_is c.args.seat.now s.seat s.rx s.held s.deliveries.items c.seat.view_is c.requires)
    c.index_mut.result.now c.index_mut.ensures.value)
    c.deliver_in-answer.ensures.seat c.deliver_in-answer.ensures.stay))
