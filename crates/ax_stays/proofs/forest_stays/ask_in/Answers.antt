use Rattle.std.proofs.Common.{◌≡◌, ◌+◌, ap, ◌∙◌, subst, IfOk}
use Rattle.ax_tree.specs.declared.packet.HEntry.TheVariants.{Asked}
use Rattle.ax_rules.specs.Histories.{token_of}
use Rattle.ax_forest.specs.Entries.{history_after, IsAnswer}
use Rattle.ax_stays.proofs.Histories.{added_after, all_seen, browser_leaves, browser_out}
use Rattle.ax_stays.proofs.forest_stays.ask_in.Goals as goal

pub leave-requires-clause-grows : goal.leave-requires-clause-grows
leave-requires-clause-grows g c =
    let a = added_after c.ask-answer.result (Asked c.args.t) c.enter-round.result.history in
    browser_leaves c.args.seat.now c.enter-round.new.seat c.enter-round.new.seat c.enter-round.result c.ask-answer.new.self c.requires.seat c.enter-round.ensures.seat a.0 (ap (λ p. p.history) c.ask-answer.ensures.entry ∙ a.1)

pub leave-requires-clause-name : goal.leave-requires-clause-name
leave-requires-clause-name g c = ap (λ p. p.trees) c.ask-answer.ensures.entry ∙ c.enter-round.ensures.name

pub returns-clause-answer : goal.returns-clause-answer
returns-clause-answer g c =
    let same = all_seen c.args.seat.now c.enter-round.new.seat c.leave.new.seat c.enter-round.result c.ask-answer.new.self c.requires.seat c.enter-round.ensures.seat c.enter-round.ensures.begins in
    subst (λ ts. IsAnswer ts c.args.seat.now.seen c.args.t c.ask-answer.result) c.enter-round.ensures.name (subst (λ h. IsAnswer c.enter-round.result.trees h c.args.t c.ask-answer.result) same c.ask-answer.ensures.answer)

pub returns-clause-seat : goal.returns-clause-seat
returns-clause-seat g c =
    let same = all_seen c.args.seat.now c.enter-round.new.seat c.leave.new.seat c.enter-round.result c.ask-answer.new.self c.requires.seat c.enter-round.ensures.seat c.enter-round.ensures.begins in
    browser_out c.args.seat.now c.enter-round.new.seat c.leave.new.seat c.enter-round.result c.ask-answer.new.self c.requires.seat c.enter-round.ensures.seat (history_after c.ask-answer.result (Asked c.args.t) c.args.seat.now.seen) c.leave.ensures
    (ap (λ p. p.history) c.ask-answer.ensures.entry ∙ ap (λ h. history_after c.ask-answer.result (Asked c.args.t) h) same)

pub returns-clause-token : goal.returns-clause-token
returns-clause-token g c =
    let same = all_seen c.args.seat.now c.enter-round.new.seat c.leave.new.seat c.enter-round.result c.ask-answer.new.self c.requires.seat c.enter-round.ensures.seat c.enter-round.ensures.begins in
    subst (λ h. IfOk c.ask-answer.result (λ k. k.0 ≡ token_of h c.args.t + 1)) same c.ask-answer.ensures.token
