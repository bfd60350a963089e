use Rattle.std.proofs.Common.{◌<◌, vec_len, arith, Ok, Err, [], ◌∷◌, refl, subst, sym, ap, ◌∙◌}
use Rattle.ax_tree.specs.declared.packet.JEntry.TheVariants.{Passed}
use Rattle.ax_stays.specs.FrameCalls.{IsMade, IsUnmade, packets_in}
use Rattle.ax_stays.specs.Makers.{maker_of}
use Rattle.ax_hub.specs.Seats.{FrameSeatView}
use Rattle.ax_stays.specs.Stays.{Stay}
use Rattle.ax_hub.proofs.Ends.{frame_seat_made}
use Rattle.ax_hub.proofs.Turns.{at_within, made_after, seen_after, turn_read}
use Rattle.ax_hub.proofs.hub.Hub.make.Goals as goal

pub index-requires : goal.index-requires
index-requires g c =
    let h = c.self.inside in let s = c.seat.inside in
    let within = at_within c.args.self.now h.frames.items h.forest h.lane c.self.view_is c.args.seat.now s.at s.seat s.tx s.kept c.seat.view_is c.requires.seat in
    let same = h.frames.ok.0 in
    let here : s.at < vec_len h.frames = omega (arith, within, same) in here

pub pass_in-requires-clause-turn : goal.pass_in-requires-clause-turn
pass_in-requires-clause-turn g c =
    let h = c.self.inside in let s = c.seat.inside in
    turn_read c.args.self.now h.frames.items h.forest h.lane c.self.view_is c.args.seat.now s.at s.seat s.tx s.kept c.seat.view_is c.requires.seat c.index.result.now c.index.ensures

pub pass_in-requires-clause-seat : goal.pass_in-requires-clause-seat
pass_in-requires-clause-seat g c = c.seat.invariant.stands

pub invariant_of-seat : goal.invariant_of-seat
invariant_of-seat g c =
    let h = c.self.inside in let s = c.seat.inside in
    let same = turn_read c.args.self.now h.frames.items h.forest h.lane c.self.view_is c.args.seat.now s.at s.seat s.tx s.kept c.seat.view_is c.requires.seat c.index.result.now c.index.ensures in
    frame_seat_made s.seat c.pass_in.new.seat s.tx s.kept c.seat.invariant c.pass_in.ensures.seat (Ok c.in-Ok.made) c.in-Ok.made (ap (λ v. v.kept) c.seat.view_is ∙ c.requires.none) refl
    (c.in-Ok.ensures.fits s.tx.tree (ap (λ t. t.name) (sym same) ∙ c.seat.invariant.name))

pub returns-in-Ok : goal.returns-in-Ok
returns-in-Ok g c =
    let h = c.self.inside in let s = c.seat.inside in
    let same = turn_read c.args.self.now h.frames.items h.forest h.lane c.self.view_is c.args.seat.now s.at s.seat s.tx s.kept c.seat.view_is c.requires.seat c.index.result.now c.index.ensures in (
      subst (λ (v : FrameSeatView). Stay maker_of 0 1 v.seen (Passed ∷ []) c.pass_in.new.seat.seen (IsMade v.tree c.in-Ok.made)) c.seat.view_is (c.in-Ok.ensures.made s.tx.tree (ap (λ t. t.name) (sym same) ∙ c.seat.invariant.name)),
      made_after c.args.self.now h.frames.items h.forest h.lane c.self.view_is c.args.seat.now s.at s.seat s.tx s.kept c.seat.view_is c.requires.seat c.pass_in.new.seat c.pass_in.ensures.seat c.in-Ok.made,
    )

-- ---- no memory

pub invariant_of-seat-in-Err : goal.invariant_of-seat-in-Err
invariant_of-seat-in-Err g c =
    let h = c.self.inside in let s = c.seat.inside in
    let same = turn_read c.args.self.now h.frames.items h.forest h.lane c.self.view_is c.args.seat.now s.at s.seat s.tx s.kept c.seat.view_is c.requires.seat c.index.result.now c.index.ensures in
    let none = ap (λ v. v.kept) c.seat.view_is ∙ c.requires.none in
    frame_seat_made s.seat c.pass_in.new.seat s.tx s.kept c.seat.invariant c.pass_in.ensures.seat (Err (record {})) s.kept none (ap packets_in none) (c.in-Err.ensures.fits s.tx.tree (ap (λ t. t.name) (sym same) ∙ c.seat.invariant.name))

pub returns-in-Err : goal.returns-in-Err
returns-in-Err g c =
    let h = c.self.inside in let s = c.seat.inside in
    let same = turn_read c.args.self.now h.frames.items h.forest h.lane c.self.view_is c.args.seat.now s.at s.seat s.tx s.kept c.seat.view_is c.requires.seat c.index.result.now c.index.ensures in (
      subst (λ (v : FrameSeatView). IsUnmade v.seen c.pass_in.new.seat.seen v.tree) c.seat.view_is (c.in-Err.ensures.broken s.tx.tree (ap (λ t. t.name) (sym same) ∙ c.seat.invariant.name)),
      seen_after c.args.self.now h.frames.items h.forest h.lane c.self.view_is c.args.seat.now s.at s.seat s.tx s.kept c.seat.view_is c.requires.seat c.pass_in.new.seat c.pass_in.ensures.seat,
    )
