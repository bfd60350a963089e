use Rattle.std.proofs.Common.{ap, ◌∙◌, subst, IfOk}
use Rattle.ax_tree.specs.declared.packet.HEntry.TheVariants.{Probed}
use Rattle.ax_rules.specs.Mirrors.{mirror_of}
use Rattle.ax_forest.specs.Entries.{history_after, IsAnswer, IsProbed}
use Rattle.ax_stays.proofs.Histories.{added_after, all_seen, browser_leaves, browser_out}
use Rattle.ax_stays.proofs.forest_stays.probe_in.Goals as goal

pub leave-requires-clause-grows : goal.leave-requires-clause-grows
leave-requires-clause-grows g c =
    let a = added_after c.probe-answer.result (Probed c.args.t c.args.update.now) c.enter-round.result.history in
    browser_leaves c.args.seat.now c.enter-round.new.seat c.enter-round.new.seat c.enter-round.result c.probe-answer.new.self c.requires.seat c.enter-round.ensures.seat a.0 (ap (λ p. p.history) c.probe-answer.ensures.entry ∙ a.1)

pub leave-requires-clause-name : goal.leave-requires-clause-name
leave-requires-clause-name g c = ap (λ p. p.trees) c.probe-answer.ensures.entry ∙ c.enter-round.ensures.name

pub returns-clause-answer : goal.returns-clause-answer
returns-clause-answer g c =
    let same = all_seen c.args.seat.now c.enter-round.new.seat c.leave.new.seat c.enter-round.result c.probe-answer.new.self c.requires.seat c.enter-round.ensures.seat c.enter-round.ensures.begins in
    subst (λ ts. IsAnswer ts c.args.seat.now.seen c.args.t c.probe-answer.result) c.enter-round.ensures.name (subst (λ h. IsAnswer c.enter-round.result.trees h c.args.t c.probe-answer.result) same c.probe-answer.ensures.answer)

pub returns-clause-seat : goal.returns-clause-seat
returns-clause-seat g c =
    let same = all_seen c.args.seat.now c.enter-round.new.seat c.leave.new.seat c.enter-round.result c.probe-answer.new.self c.requires.seat c.enter-round.ensures.seat c.enter-round.ensures.begins in
    browser_out c.args.seat.now c.enter-round.new.seat c.leave.new.seat c.enter-round.result c.probe-answer.new.self c.requires.seat c.enter-round.ensures.seat (history_after c.probe-answer.result (Probed c.args.t c.args.update.now) c.args.seat.now.seen) c.leave.ensures
    (ap (λ p. p.history) c.probe-answer.ensures.entry ∙ ap (λ h. history_after c.probe-answer.result (Probed c.args.t c.args.update.now) h) same)

pub returns-clause-out : goal.returns-clause-out
returns-clause-out g c =
    let same = all_seen c.args.seat.now c.enter-round.new.seat c.leave.new.seat c.enter-round.result c.probe-answer.new.self c.requires.seat c.enter-round.ensures.seat c.enter-round.ensures.begins in
    subst (λ h. IfOk c.probe-answer.result (IsProbed c.args.update.now (mirror_of h c.args.t))) same c.probe-answer.ensures.out
