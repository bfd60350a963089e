use Rattle.std.proofs.Common.{sym, ◌∙◌, subst}
use Rattle.ax_stays.specs.Received.{CanBeReceived}
use Rattle.ax_stays.proofs.Histories.{all_seen, browser_leaves, receipt_adds, receipt_stays}
use Rattle.ax_stays.proofs.forest_stays.receive_in.Goals as goal

pub receive-answer-requires : goal.receive-answer-requires
receive-answer-requires g c =
    let same = all_seen c.args.seat.now c.enter-round.new.seat c.enter-round.new.seat c.enter-round.result c.enter-round.result c.requires.seat c.enter-round.ensures.seat c.enter-round.ensures.begins in
    subst (λ ts. CanBeReceived ts c.enter-round.result.history c.args.packet) (sym c.enter-round.ensures.name) (subst (λ h. CanBeReceived c.args.turn.now.name h c.args.packet) (sym same) c.requires.next)

pub leave-requires-clause-grows : goal.leave-requires-clause-grows
leave-requires-clause-grows g c =
    let a = receipt_adds c.receive-answer.result c.args.packet c.enter-round.result c.receive-answer.new.self c.receive-answer.ensures in
    browser_leaves c.args.seat.now c.enter-round.new.seat c.enter-round.new.seat c.enter-round.result c.receive-answer.new.self c.requires.seat c.enter-round.ensures.seat a.0 a.1

pub leave-requires-clause-name : goal.leave-requires-clause-name
leave-requires-clause-name g c = (receipt_adds c.receive-answer.result c.args.packet c.enter-round.result c.receive-answer.new.self c.receive-answer.ensures).2 ∙ c.enter-round.ensures.name

pub returns : goal.returns
returns g c =
    receipt_stays c.args.seat.now c.enter-round.new.seat c.leave.new.seat c.enter-round.result c.receive-answer.new.self c.requires.seat c.enter-round.ensures.seat c.enter-round.ensures.begins c.leave.ensures
    c.receive-answer.result c.args.packet c.receive-answer.ensures
