use Rattle.std.proofs.Common.{◌≡◌, ℕ, [], ◌∷◌, ap, subst}
use Rattle.ax_tree.specs.declared.packet.JEntry.TheVariants.{Passed}
use Rattle.ax_stays.specs.FrameCalls.{grown, IsMade, IsUnmade}
use Rattle.ax_stays.specs.Makers.{maker_of}
use Rattle.ax_stays.specs.Stays.{Stay}
use Rattle.ax_stays.proofs.Growing.{frame_leaves, frame_named, frame_stays, grows_at, out_is}
use Rattle.ax_stays.proofs.Journals.{broken_stay, fits_with, if_ok, on_err, pass_adds, same_tree}
use Rattle.ax_stays.proofs.frame_stays.pass_in.Goals as goal

pub leave-requires-clause-grows : goal.leave-requires-clause-grows
leave-requires-clause-grows g c =
    let a = pass_adds c.pass-answer.result c.enter-round.result c.pass-answer.new.self c.pass-answer.ensures.passed c.pass-answer.ensures.broken in
    frame_leaves 0 c.args.seat.now c.enter-round.new.seat c.enter-round.new.seat c.enter-round.result c.pass-answer.new.self a.added c.requires.seat c.enter-round.ensures.seat a.grown a.own

pub leave-requires-clause-name : goal.leave-requires-clause-name
leave-requires-clause-name g c =
    let a = pass_adds c.pass-answer.result c.enter-round.result c.pass-answer.new.self c.pass-answer.ensures.passed c.pass-answer.ensures.broken in
    frame_named 0 c.args.seat.now c.enter-round.new.seat c.enter-round.new.seat c.enter-round.result c.pass-answer.new.self a.added c.requires.seat c.enter-round.ensures.seat a.grown _ c.enter-round.ensures.name

pub returns-clause-seat : goal.returns-clause-seat
returns-clause-seat g c = out_is c.args.seat.now c.enter-round.new.seat c.leave.new.seat c.enter-round.result.journal c.pass-answer.new.self.journal c.enter-round.ensures.seat c.requires.seat.idle c.leave.ensures

pub returns-clause-made : goal.returns-clause-made
returns-clause-made g c =
    if_ok c.pass-answer.result (λ made. IsMade c.enter-round.result.tree made c.enter-round.result.journal)
    (λ made. (t : ℕ) → c.args.turn.now.name ≡ t ∷ [] → Stay maker_of 0 1 c.args.seat.now.seen (Passed ∷ []) c.leave.new.seat.seen (IsMade t made))
    (c.pass-answer.new.self ≡ grown (Passed ∷ []) c.enter-round.result) c.pass-answer.ensures.made c.pass-answer.ensures.passed
    (λ made is more. λ t named.
    frame_stays 0 c.args.seat.now c.enter-round.new.seat c.leave.new.seat c.enter-round.result c.pass-answer.new.self (Passed ∷ []) c.requires.seat c.enter-round.ensures.seat more
    (IsMade t made) c.enter-round.ensures.begins c.leave.ensures
    (subst (λ (u : ℕ). IsMade u made c.enter-round.result.journal) (same_tree c.args.turn.now.name t c.enter-round.result.tree named c.enter-round.ensures.name) is))

pub returns-clause-broken : goal.returns-clause-broken
returns-clause-broken g c =
    on_err c.pass-answer.result _ ((t : ℕ) → c.args.turn.now.name ≡ t ∷ [] → IsUnmade c.args.seat.now.seen c.leave.new.seat.seen t) c.pass-answer.ensures.broken
    (λ how. λ t named.
    broken_stay t c.args.seat.now.seen c.enter-round.result c.pass-answer.new.self c.leave.new.seat.seen (same_tree c.args.turn.now.name t c.enter-round.result.tree named c.enter-round.ensures.name)
    (grows_at maker_of c.args.seat.now.low c.args.seat.now.high 0 1 c.args.seat.now.seen c.enter-round.result.journal c.requires.seat.low c.requires.seat.high c.enter-round.ensures.begins)
    (ap (λ v. v.seen) c.leave.ensures) how)

pub returns-clause-fits : goal.returns-clause-fits
returns-clause-fits g c = λ t named.
    let a = pass_adds c.pass-answer.result c.enter-round.result c.pass-answer.new.self c.pass-answer.ensures.passed c.pass-answer.ensures.broken in
    fits_with t c.args.turn.now.name c.args.seat.now.seen c.enter-round.result c.pass-answer.new.self c.leave.new.seat.seen a.added named c.enter-round.ensures.name
    (grows_at maker_of c.args.seat.now.low c.args.seat.now.high 0 1 c.args.seat.now.seen c.enter-round.result.journal c.requires.seat.low c.requires.seat.high c.enter-round.ensures.begins)
    a.grown (ap (λ v. v.seen) c.leave.ensures) c.pass-answer.result c.pass-answer.ensures.fits
