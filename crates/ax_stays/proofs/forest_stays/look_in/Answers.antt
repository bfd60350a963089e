use Rattle.std.proofs.Common.{◌≡◌, ◌+◌, [], ◌++◌, IfOk, ap, sym, ◌∙◌, append-nil, subst}
use Rattle.ax_turn.specs.Makers.{GrowsByOthers}
use Rattle.ax_forest.specs.Past.{Past}
use Rattle.ax_stays.specs.Makers.{by_browser}
use Rattle.ax_stays.proofs.Growing.{grows_at, out_is}
use Rattle.ax_stays.proofs.forest_stays.look_in.Goals as goal

pub leave-requires-clause-grows : goal.leave-requires-clause-grows
leave-requires-clause-grows g c = ([], sym (append-nil c.enter-round.result.history) ∙ ap (λ l. l ++ []) (sym (ap (λ v. v.seen) c.enter-round.ensures.seat)), tt)

pub returns-clause-look : goal.returns-clause-look
returns-clause-look g c =
    subst (λ (p : Past). IfOk c.look-look.result (λ look. look ≡ p)) (λ i. record { trees = c.enter-round.ensures.name i; history = ap (λ v. v.seen) (sym c.leave.ensures) i }) c.look-look.ensures

pub returns-clause-seat : goal.returns-clause-seat
returns-clause-seat g c = out_is c.args.seat.now c.enter-round.new.seat c.leave.new.seat c.enter-round.result.history c.enter-round.result.history c.enter-round.ensures.seat c.requires.seat.idle c.leave.ensures

pub returns-clause-begins : goal.returns-clause-begins
returns-clause-begins g c =
    let n = c.args.number in
    subst (λ l. GrowsByOthers by_browser n (n + 1) c.args.seat.now.seen l) (ap (λ v. v.seen) (sym c.leave.ensures))
    (grows_at by_browser c.args.seat.now.low c.args.seat.now.high n (n + 1) c.args.seat.now.seen c.enter-round.result.history c.requires.seat.low c.requires.seat.high c.enter-round.ensures.begins)
