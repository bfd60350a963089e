use Rattle.std.proofs.Common.{◌<◌, vec_len, arith, subst, sym, ap, ◌∙◌}
use Rattle.ax_stays.specs.FrameCalls.{edit_entries, IsEditAnswer}
use Rattle.ax_hub.specs.Seats.{FrameSeatView}
use Rattle.ax_stays.specs.Stays.{Stay}
use Rattle.ax_stays.specs.Makers.{maker_of}
use Rattle.ax_hub.proofs.Ends.{frame_seat_after}
use Rattle.ax_hub.proofs.Turns.{at_within, of_after, seen_after, turn_read}
use Rattle.ax_hub.proofs.hub.Hub.edit.Goals as goal

pub index-requires : goal.index-requires
index-requires g c =
    let h = c.self.inside in let s = c.seat.inside in
    let within = at_within c.args.self.now h.frames.items h.forest h.lane c.self.view_is c.args.seat.now s.at s.seat s.tx s.kept c.seat.view_is c.requires.seat in
    let same = h.frames.ok.0 in
    let here : s.at < vec_len h.frames = omega (arith, within, same) in here

pub edit_in-requires-clause-turn : goal.edit_in-requires-clause-turn
edit_in-requires-clause-turn g c =
    let h = c.self.inside in let s = c.seat.inside in
    turn_read c.args.self.now h.frames.items h.forest h.lane c.self.view_is c.args.seat.now s.at s.seat s.tx s.kept c.seat.view_is c.requires.seat c.index.result.now c.index.ensures

pub edit_in-requires-clause-seat : goal.edit_in-requires-clause-seat
edit_in-requires-clause-seat g c = c.seat.invariant.stands

pub invariant_of-seat : goal.invariant_of-seat
invariant_of-seat g c =
    let h = c.self.inside in let s = c.seat.inside in
    let same = turn_read c.args.self.now h.frames.items h.forest h.lane c.self.view_is c.args.seat.now s.at s.seat s.tx s.kept c.seat.view_is c.requires.seat c.index.result.now c.index.ensures in
    frame_seat_after s.seat c.edit_in.new.seat s.tx s.kept c.seat.invariant c.edit_in.ensures.seat (c.edit_in.ensures.fits s.tx.tree (ap (λ t. t.name) (sym same) ∙ c.seat.invariant.name))

pub returns-clause-of : goal.returns-clause-of
returns-clause-of g c =
    let h = c.self.inside in let s = c.seat.inside in
    of_after c.args.self.now h.frames.items h.forest h.lane c.self.view_is c.args.seat.now s.at s.seat s.tx s.kept c.seat.view_is c.requires.seat c.edit_in.new.seat c.edit_in.ensures.seat s.kept

pub returns-clause-seat : goal.returns-clause-seat
returns-clause-seat g c =
    let h = c.self.inside in let s = c.seat.inside in
    seen_after c.args.self.now h.frames.items h.forest h.lane c.self.view_is c.args.seat.now s.at s.seat s.tx s.kept c.seat.view_is c.requires.seat c.edit_in.new.seat c.edit_in.ensures.seat

pub returns-clause-stay : goal.returns-clause-stay
returns-clause-stay g c =
    let h = c.self.inside in let s = c.seat.inside in
    let same = turn_read c.args.self.now h.frames.items h.forest h.lane c.self.view_is c.args.seat.now s.at s.seat s.tx s.kept c.seat.view_is c.requires.seat c.index.result.now c.index.ensures in
    subst (λ (v : FrameSeatView). Stay maker_of 0 1 v.seen (edit_entries c.args.e.now c.edit_in.result) c.edit_in.new.seat.seen (IsEditAnswer v.tree c.args.e.now c.edit_in.result)) c.seat.view_is
    (c.edit_in.ensures.stay s.tx.tree (ap (λ t. t.name) (sym same) ∙ c.seat.invariant.name))
