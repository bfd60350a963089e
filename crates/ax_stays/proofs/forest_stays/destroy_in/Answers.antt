use Rattle.std.proofs.Common.{ap, ◌∙◌, subst}
use Rattle.ax_tree.specs.declared.packet.HEntry.TheVariants.{Ended}
use Rattle.ax_forest.specs.Entries.{history_after, IsAnswer}
use Rattle.ax_stays.proofs.Histories.{added_after, all_seen, browser_leaves, browser_out}
use Rattle.ax_stays.proofs.forest_stays.destroy_in.Goals as goal

pub leave-requires-clause-grows : goal.leave-requires-clause-grows
leave-requires-clause-grows g c =
    let a = added_after c.destroy-answer.result (Ended c.args.t) c.enter-round.result.history in
    browser_leaves c.args.seat.now c.enter-round.new.seat c.enter-round.new.seat c.enter-round.result c.destroy-answer.new.self c.requires.seat c.enter-round.ensures.seat a.0 (ap (λ p. p.history) c.destroy-answer.ensures.entry ∙ a.1)

pub leave-requires-clause-name : goal.leave-requires-clause-name
leave-requires-clause-name g c = ap (λ p. p.trees) c.destroy-answer.ensures.entry ∙ c.enter-round.ensures.name

pub returns-clause-answer : goal.returns-clause-answer
returns-clause-answer g c =
    let same = all_seen c.args.seat.now c.enter-round.new.seat c.leave.new.seat c.enter-round.result c.destroy-answer.new.self c.requires.seat c.enter-round.ensures.seat c.enter-round.ensures.begins in
    subst (λ ts. IsAnswer ts c.args.seat.now.seen c.args.t c.destroy-answer.result) c.enter-round.ensures.name (subst (λ h. IsAnswer c.enter-round.result.trees h c.args.t c.destroy-answer.result) same c.destroy-answer.ensures.answer)

pub returns-clause-seat : goal.returns-clause-seat
returns-clause-seat g c =
    let same = all_seen c.args.seat.now c.enter-round.new.seat c.leave.new.seat c.enter-round.result c.destroy-answer.new.self c.requires.seat c.enter-round.ensures.seat c.enter-round.ensures.begins in
    browser_out c.args.seat.now c.enter-round.new.seat c.leave.new.seat c.enter-round.result c.destroy-answer.new.self c.requires.seat c.enter-round.ensures.seat (history_after c.destroy-answer.result (Ended c.args.t) c.args.seat.now.seen) c.leave.ensures
    (ap (λ p. p.history) c.destroy-answer.ensures.entry ∙ ap (λ h. history_after c.destroy-answer.result (Ended c.args.t) h) same)
