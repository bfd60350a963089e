use Rattle.std.proofs.Common.{◌≡◌, ◌+◌, Result, IfOk, ap, refl, subst, sym}
use Rattle.ax_tree.specs.declared.packet.HEntry.TheVariants.{Asked}
use Rattle.ax_forest.specs.declared.answers.ForestErr.{ForestErr}
use Rattle.ax_forest.specs.Entries.{IsAnswer}
use Rattle.ax_rules.specs.Histories.{token_of}
use Rattle.ax_hub.specs.Seats.{BrowserSeatView}
use Rattle.ax_hub.proofs.Browser.{asked_view, browser_asked, browser_of, browser_turn, ok_named}
use Rattle.ax_stays.proofs.Histories.{no_bundle}
use Rattle.ax_hub.proofs.hub.Hub.ask.Goals as goal

pub ask_in-requires-clause-turn : goal.ask_in-requires-clause-turn
ask_in-requires-clause-turn g c =
    let h = c.self.inside in let s = c.seat.inside in
    browser_turn c.args.self.now h.frames.items h.forest h.lane c.self.view_is c.args.seat.now s.seat s.rx s.held s.deliveries.items c.seat.view_is c.requires

pub ask_in-requires-clause-seat : goal.ask_in-requires-clause-seat
ask_in-requires-clause-seat g c = c.seat.invariant.stands

pub named-requires : goal.named-requires
named-requires g c = no_bundle c.self.inside.forest.name c.seat.inside.seat.seen c.args.t c.ask_in.result c.ask_in.ensures.answer

pub invariant_of-seat : goal.invariant_of-seat
invariant_of-seat g c =
    let s = c.seat.inside in browser_asked c.ask_in.result (Asked c.args.t) s.seat c.ask_in.new.seat s.rx s.held s.deliveries.items tt c.ask_in.ensures.seat c.seat.invariant

pub returns-clause-of : goal.returns-clause-of
returns-clause-of g c =
    let h = c.self.inside in let s = c.seat.inside in
    browser_of c.args.self.now h.frames.items h.forest h.lane c.self.view_is c.args.seat.now s.seat s.rx s.held s.deliveries.items c.seat.view_is c.requires
    c.ask_in.new.seat s.rx s.held s.deliveries.items (ap (λ v. v.turn) c.ask_in.ensures.seat) refl refl

pub returns-clause-answer : goal.returns-clause-answer
returns-clause-answer g c =
    let s = c.seat.inside in
    subst (λ (r : Result _ ForestErr). IsAnswer c.args.self.now.forest.name c.args.seat.now.seen c.args.t r) (sym c.named.ensures)
    (subst (λ (v : BrowserSeatView). IsAnswer c.args.self.now.forest.name v.seen c.args.t c.ask_in.result) c.seat.view_is
    (subst (λ ts. IsAnswer ts s.seat.seen c.args.t c.ask_in.result) (ap (λ h. h.forest.name) c.self.view_is) c.ask_in.ensures.answer))

pub returns-clause-seat : goal.returns-clause-seat
returns-clause-seat g c =
    let s = c.seat.inside in
    asked_view c.named.result c.ask_in.result (Asked c.args.t) c.args.seat.now s.seat c.ask_in.new.seat s.rx s.held s.deliveries.items c.seat.view_is c.named.ensures c.ask_in.ensures.seat

pub returns-clause-token : goal.returns-clause-token
returns-clause-token g c =
    ok_named (λ k. k.0 ≡ token_of c.args.seat.now.seen c.args.t + 1) c.named.result c.ask_in.result c.named.ensures
    (subst (λ (v : BrowserSeatView). IfOk c.ask_in.result (λ k. k.0 ≡ token_of v.seen c.args.t + 1)) c.seat.view_is c.ask_in.ensures.token)
