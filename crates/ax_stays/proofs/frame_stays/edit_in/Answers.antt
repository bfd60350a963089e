use Rattle.std.proofs.Common.{ℕ, ap, subst}
use Rattle.ax_stays.specs.FrameCalls.{edit_entries, IsEditAnswer}
use Rattle.ax_stays.specs.Makers.{maker_of}
use Rattle.ax_stays.proofs.Growing.{frame_leaves, frame_named, frame_stays, grows_at, out_is}
use Rattle.ax_stays.proofs.Journals.{edit_own, keeps_fits, same_tree}
use Rattle.ax_stays.proofs.frame_stays.edit_in.Goals as goal

pub leave-requires-clause-grows : goal.leave-requires-clause-grows
leave-requires-clause-grows g c =
    frame_leaves 0 c.args.seat.now c.enter-round.new.seat c.enter-round.new.seat c.enter-round.result c.edit-answer.new.self (edit_entries c.args.e.now c.edit-answer.result) c.requires.seat c.enter-round.ensures.seat c.edit-answer.ensures.grown (edit_own c.args.e.now c.edit-answer.result)

pub leave-requires-clause-name : goal.leave-requires-clause-name
leave-requires-clause-name g c =
    frame_named 0 c.args.seat.now c.enter-round.new.seat c.enter-round.new.seat c.enter-round.result c.edit-answer.new.self (edit_entries c.args.e.now c.edit-answer.result) c.requires.seat c.enter-round.ensures.seat c.edit-answer.ensures.grown _ c.enter-round.ensures.name

pub returns-clause-seat : goal.returns-clause-seat
returns-clause-seat g c = out_is c.args.seat.now c.enter-round.new.seat c.leave.new.seat c.enter-round.result.journal c.edit-answer.new.self.journal c.enter-round.ensures.seat c.requires.seat.idle c.leave.ensures

pub returns-clause-stay : goal.returns-clause-stay
returns-clause-stay g c = λ t named.
    frame_stays 0 c.args.seat.now c.enter-round.new.seat c.leave.new.seat c.enter-round.result c.edit-answer.new.self (edit_entries c.args.e.now c.edit-answer.result) c.requires.seat c.enter-round.ensures.seat c.edit-answer.ensures.grown
    (IsEditAnswer t c.args.e.now c.edit-answer.result) c.enter-round.ensures.begins c.leave.ensures
    (subst (λ (u : ℕ). IsEditAnswer u c.args.e.now c.edit-answer.result c.enter-round.result.journal) (same_tree c.args.turn.now.name t c.enter-round.result.tree named c.enter-round.ensures.name) c.edit-answer.ensures.answer)

pub returns-clause-fits : goal.returns-clause-fits
returns-clause-fits g c = λ t named.
    keeps_fits t c.args.turn.now.name c.args.seat.now.seen c.enter-round.result c.edit-answer.new.self c.leave.new.seat.seen (edit_entries c.args.e.now c.edit-answer.result) named c.enter-round.ensures.name
    (grows_at maker_of c.args.seat.now.low c.args.seat.now.high 0 1 c.args.seat.now.seen c.enter-round.result.journal c.requires.seat.low c.requires.seat.high c.enter-round.ensures.begins)
    c.edit-answer.ensures.grown (ap (λ v. v.seen) c.leave.ensures) c.edit-answer.ensures.fits
