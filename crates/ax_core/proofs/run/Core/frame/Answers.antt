use Rattle.std.proofs.Common.{sym, ap, ◌∙◌, arith, Some}
use Rattle.std.specs.Prelude.{option_map}
use Rattle.ax_run_rules.specs.States.{State, find_frame}
use Rattle.ax_core.specs.FrameRuns.{journaled}
use Rattle.ax_core.specs.Standing.{state_of}
use Rattle.ax_core.proofs.Found.{seat_place, seat_below, seat_read, no_place}
use Rattle.ax_core.proofs.FrameItems.{found, none_at}
use Rattle.ax_core.proofs.run.Core.frame.Goals as goal

pub returns-in_err-at : goal.returns-in_err-at
returns-in_err-at c =
    let s = state_of c.self.inside.seats.items c.self.inside.browser c.self.inside.readers.items c.self.inside.forest.history in
    let nowhere = no_place s c.self.inside.places c.args.t c.self.invariant.places (sym c.in_err-at.was ∙ c.find.ensures) in
    ap (option_map (λ f. f.now)) c.from_residual.ensures ∙ (sym (ap (option_map journaled) (none_at s c.args.t nowhere)) ∙ ap (λ (x : State). option_map journaled (find_frame x c.args.t)) c.self.view_is)

pub index-requires : goal.index-requires
index-requires c =
    let s = state_of c.self.inside.seats.items c.self.inside.browser c.self.inside.readers.items c.self.inside.forest.history in
    let low = seat_below s c.self.inside.places c.args.t c.in_ok-at.at c.self.invariant.places (sym c.in_ok-at.was ∙ c.find.ensures) in
    omega (arith, low, c.self.inside.seats.ok.0)

pub returns : goal.returns
returns c =
    let s = state_of c.self.inside.seats.items c.self.inside.browser c.self.inside.readers.items c.self.inside.forest.history in
    let f = c.index.result.now in
    let at = sym c.in_ok-at.was ∙ c.find.ensures in
    let place = seat_place s c.self.inside.places c.args.t c.in_ok-at.at c.self.invariant.places at in
    let read = seat_read s c.self.inside.places c.args.t c.in_ok-at.at f c.self.invariant.places at c.index.ensures in
    ap Some c.frame.ensures ∙ (sym (ap (option_map journaled) (found s c.args.t c.in_ok-at.at f place read)) ∙ ap (λ (x : State). option_map journaled (find_frame x c.args.t)) c.self.view_is)
