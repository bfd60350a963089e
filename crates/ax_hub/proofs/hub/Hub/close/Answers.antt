use Rattle.ax_hub.proofs.Browser.{browser_frames, browser_lane, browser_turn}
use Rattle.ax_hub.proofs.Left.{fit_left, frames_left, histories_left, history_left, known_left, readers_inside, senders_inside, trees_left, turns_inside, waiting_left}
use Rattle.ax_hub.proofs.hub.Hub.close.Goals as goal

pub close_forest-forest-requires-clause-turn : goal.close_forest-forest-requires-clause-turn
close_forest-forest-requires-clause-turn g c =
    let h = c.self.inside in let s = c.browser.inside in
    browser_turn c.args.self h.frames.items h.forest h.lane c.self.view_is c.args.browser s.seat s.rx s.held s.deliveries.items c.browser.view_is c.requires.browser

pub close_forest-forest-requires-clause-seat : goal.close_forest-forest-requires-clause-seat
close_forest-forest-requires-clause-seat g c =
    let h = c.self.inside in let s = c.browser.inside in
    c.browser.invariant.stands

pub close_forest-forest-requires-clause-readers : goal.close_forest-forest-requires-clause-readers
close_forest-forest-requires-clause-readers g c =
    let h = c.self.inside in let s = c.browser.inside in
    readers_inside c.args.self h.frames.items h.forest h.lane h.places c.self.view_is c.self.invariant c.args.browser s.seat s.rx s.held s.deliveries.items c.browser.view_is c.browser.invariant c.requires.browser c.args.readers.items c.requires.readers

pub close_frames-requires-clause-turns : goal.close_frames-requires-clause-turns
close_frames-requires-clause-turns g c =
    let h = c.self.inside in let s = c.browser.inside in
    turns_inside c.args.self h.frames.items h.forest h.lane h.places c.self.view_is c.self.invariant c.args.browser s.seat s.rx s.held s.deliveries.items c.browser.view_is c.browser.invariant c.requires.browser c.args.frames.items c.requires.turns

pub close_frames-requires-clause-told : goal.close_frames-requires-clause-told
close_frames-requires-clause-told g c =
    let h = c.self.inside in let s = c.browser.inside in
    browser_frames c.args.self h.frames.items h.forest h.lane c.self.view_is c.args.browser s.seat s.rx s.held s.deliveries.items c.browser.view_is c.requires.browser

pub close_frames-requires-clause-makers : goal.close_frames-requires-clause-makers
close_frames-requires-clause-makers g c =
    let h = c.self.inside in let s = c.browser.inside in
    c.self.invariant.makers

pub close_frames-requires-clause-delivers : goal.close_frames-requires-clause-delivers
close_frames-requires-clause-delivers g c =
    let h = c.self.inside in let s = c.browser.inside in
    c.browser.invariant.delivers

pub waiting_in-requires-clause-taker : goal.waiting_in-requires-clause-taker
waiting_in-requires-clause-taker g c =
    let h = c.self.inside in let s = c.browser.inside in
    browser_lane c.args.self h.frames.items h.forest h.lane c.self.view_is c.args.browser s.seat s.rx s.held s.deliveries.items c.browser.view_is c.requires.browser

pub waiting_in-requires-clause-senders : goal.waiting_in-requires-clause-senders
waiting_in-requires-clause-senders g c =
    let h = c.self.inside in let s = c.browser.inside in
    senders_inside c.args.self h.frames.items h.forest h.lane h.places c.self.view_is c.self.invariant c.args.browser s.seat s.rx s.held s.deliveries.items c.browser.view_is c.browser.invariant c.requires.browser c.args.frames.items c.requires.turns c.in_ok-closed.closed.frames.items c.in_ok-closed.closed.senders.items c.in_ok-closed.ensures.closed c.requires.lane

pub returns-clause-frames : goal.returns-clause-frames
returns-clause-frames g c =
    let h = c.self.inside in let s = c.browser.inside in
    frames_left c.args.self h.frames.items h.forest h.lane h.places c.self.view_is c.self.invariant c.args.browser s.seat s.rx s.held s.deliveries.items c.browser.view_is c.browser.invariant c.requires.browser c.args.frames.items c.requires.turns c.in_ok-closed.closed.frames.items c.in_ok-closed.closed.senders.items c.in_ok-closed.ensures.closed

pub returns-clause-history : goal.returns-clause-history
returns-clause-history g c =
    let h = c.self.inside in let s = c.browser.inside in
    history_left c.args.self h.frames.items h.forest h.lane h.places c.self.view_is c.self.invariant c.args.browser s.seat s.rx s.held s.deliveries.items c.browser.view_is c.browser.invariant c.requires.browser c.close_forest-forest.result c.close_forest-forest.ensures.forest

pub returns-clause-readers : goal.returns-clause-readers
returns-clause-readers g c =
    let h = c.self.inside in let s = c.browser.inside in
    histories_left c.args.self h.frames.items h.forest h.lane h.places c.self.view_is c.self.invariant c.args.browser s.seat s.rx s.held s.deliveries.items c.browser.view_is c.browser.invariant c.requires.browser c.close_forest-forest.result c.args.readers.items c.close_forest-forest.ensures.forest c.close_forest-forest.ensures.readers

pub returns-clause-trees : goal.returns-clause-trees
returns-clause-trees g c =
    let h = c.self.inside in let s = c.browser.inside in
    trees_left c.args.self h.frames.items h.forest h.lane h.places c.self.view_is c.self.invariant c.args.browser s.seat s.rx s.held s.deliveries.items c.browser.view_is c.browser.invariant c.requires.browser c.args.frames.items c.requires.turns c.in_ok-closed.closed.frames.items c.in_ok-closed.closed.senders.items c.in_ok-closed.ensures.closed

pub returns-clause-fit : goal.returns-clause-fit
returns-clause-fit g c =
    let h = c.self.inside in let s = c.browser.inside in
    fit_left c.args.self h.frames.items h.forest h.lane h.places c.self.view_is c.self.invariant c.args.browser s.seat s.rx s.held s.deliveries.items c.browser.view_is c.browser.invariant c.requires.browser c.args.frames.items c.requires.turns c.in_ok-closed.closed.frames.items c.in_ok-closed.closed.senders.items c.in_ok-closed.ensures.closed
    c.in_ok-closed.closed.kept.items c.in_ok-waiting.waiting.items c.in_ok-closed.ensures.kept c.in_ok-waiting.ensures
    c.close_forest-forest.result c.close_forest-forest.ensures.forest

pub returns-clause-known : goal.returns-clause-known
returns-clause-known g c =
    let h = c.self.inside in let s = c.browser.inside in
    known_left c.args.self h.frames.items h.forest h.lane h.places c.self.view_is c.self.invariant c.args.browser s.seat s.rx s.held s.deliveries.items c.browser.view_is c.browser.invariant c.requires.browser c.args.frames.items c.requires.turns c.in_ok-closed.closed.frames.items c.in_ok-closed.closed.senders.items c.in_ok-closed.ensures.closed
    c.in_ok-closed.closed.kept.items c.in_ok-waiting.waiting.items c.in_ok-closed.ensures.kept c.in_ok-waiting.ensures

pub returns-clause-waiting : goal.returns-clause-waiting
returns-clause-waiting g c =
    let h = c.self.inside in let s = c.browser.inside in
    waiting_left c.args.self h.frames.items h.forest h.lane h.places c.self.view_is c.self.invariant c.args.browser s.seat s.rx s.held s.deliveries.items c.browser.view_is c.browser.invariant c.requires.browser c.args.frames.items c.requires.turns c.in_ok-closed.closed.frames.items c.in_ok-closed.closed.senders.items c.in_ok-closed.ensures.closed
    c.in_ok-closed.closed.kept.items c.in_ok-waiting.waiting.items c.in_ok-closed.ensures.kept c.in_ok-waiting.ensures
