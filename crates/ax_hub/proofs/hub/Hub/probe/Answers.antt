use Rattle.std.proofs.Common.{Result, IfOk, ap, refl, subst, sym}
use Rattle.ax_tree.specs.declared.packet.HEntry.TheVariants.{Probed}
use Rattle.ax_forest.specs.declared.answers.ForestErr.{ForestErr}
use Rattle.ax_forest.specs.Entries.{IsAnswer, IsProbed}
use Rattle.ax_rules.specs.Mirrors.{mirror_of}
use Rattle.ax_hub.specs.Seats.{BrowserSeatView}
use Rattle.ax_hub.proofs.Browser.{asked_view, browser_asked, browser_of, browser_turn, ok_named}
use Rattle.ax_stays.proofs.Histories.{no_bundle}
use Rattle.ax_hub.proofs.hub.Hub.probe.Goals as goal

pub probe_in-requires-clause-turn : goal.probe_in-requires-clause-turn
probe_in-requires-clause-turn g c =
    let h = c.self.inside in let s = c.seat.inside in
    browser_turn c.args.self.now h.frames.items h.forest h.lane c.self.view_is c.args.seat.now s.seat s.rx s.held s.deliveries.items c.seat.view_is c.requires

pub probe_in-requires-clause-seat : goal.probe_in-requires-clause-seat
probe_in-requires-clause-seat g c = c.seat.invariant.stands

pub named-requires : goal.named-requires
named-requires g c = no_bundle c.self.inside.forest.name c.seat.inside.seat.seen c.args.t c.probe_in.result c.probe_in.ensures.answer

pub invariant_of-seat : goal.invariant_of-seat
invariant_of-seat g c =
    let s = c.seat.inside in browser_asked c.probe_in.result (Probed c.args.t c.args.update.now) s.seat c.probe_in.new.seat s.rx s.held s.deliveries.items tt c.probe_in.ensures.seat c.seat.invariant

pub returns-clause-of : goal.returns-clause-of
returns-clause-of g c =
    let h = c.self.inside in let s = c.seat.inside in
    browser_of c.args.self.now h.frames.items h.forest h.lane c.self.view_is c.args.seat.now s.seat s.rx s.held s.deliveries.items c.seat.view_is c.requires
    c.probe_in.new.seat s.rx s.held s.deliveries.items (ap (λ v. v.turn) c.probe_in.ensures.seat) refl refl

pub returns-clause-answer : goal.returns-clause-answer
returns-clause-answer g c =
    let s = c.seat.inside in
    subst (λ (r : Result _ ForestErr). IsAnswer c.args.self.now.forest.name c.args.seat.now.seen c.args.t r) (sym c.named.ensures)
    (subst (λ (v : BrowserSeatView). IsAnswer c.args.self.now.forest.name v.seen c.args.t c.probe_in.result) c.seat.view_is
    (subst (λ ts. IsAnswer ts s.seat.seen c.args.t c.probe_in.result) (ap (λ h. h.forest.name) c.self.view_is) c.probe_in.ensures.answer))

pub returns-clause-seat : goal.returns-clause-seat
returns-clause-seat g c =
    let s = c.seat.inside in
    asked_view c.named.result c.probe_in.result (Probed c.args.t c.args.update.now) c.args.seat.now s.seat c.probe_in.new.seat s.rx s.held s.deliveries.items c.seat.view_is c.named.ensures c.probe_in.ensures.seat

pub returns-clause-out : goal.returns-clause-out
returns-clause-out g c =
    ok_named (IsProbed c.args.update.now (mirror_of c.args.seat.now.seen c.args.t)) c.named.result c.probe_in.result c.named.ensures
    (subst (λ (v : BrowserSeatView). IfOk c.probe_in.result (IsProbed c.args.update.now (mirror_of v.seen c.args.t))) c.seat.view_is c.probe_in.ensures.out)
