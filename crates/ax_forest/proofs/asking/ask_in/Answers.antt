use Rattle.std.proofs.Common.{◌∙◌, refl, sym, subst, arith}
use Rattle.std.proofs.lemmas.Bool.{false≢true}
use Rattle.ax_forest.specs.Tallied.{IsTallied}
use Rattle.ax_forest.proofs.Pasts.{past_none, past_some, ask_gone, ask_live}
use Rattle.ax_forest.proofs.ByIds.{place_at}
use Rattle.ax_forest.proofs.asking.ask_in.Goals as goal

pub returns-then-not-live-clause-answer : goal.returns-then-not-live-clause-answer
returns-then-not-live-clause-answer c = λ ts i.
    let k = subst (IsTallied ts c.args.history.now c.args.t) (sym c.in-Some.ensures) (i.tallied c.args.t) in
    (refl, k.0, past_none c.args.trees.now c.args.tallies.now ts c.args.history.now i c.args.t k.0 (λ s. false≢true (sym c.if-not-live.true ∙ c.live.ensures.1 s)))

pub returns-then-not-live-clause-past : goal.returns-then-not-live-clause-past
returns-then-not-live-clause-past c = λ ts i.
    let k = subst (IsTallied ts c.args.history.now c.args.t) (sym c.in-Some.ensures) (i.tallied c.args.t) in
    let gone = past_none c.args.trees.now c.args.tallies.now ts c.args.history.now i c.args.t k.0 (λ s. false≢true (sym c.if-not-live.true ∙ c.live.ensures.1 s)) in
    ask_gone c.args.trees.now c.args.tallies.now ts c.args.history.now c.args.t gone i

pub returns-clause-answer : goal.returns-clause-answer
returns-clause-answer c = λ ts i.
    let k = subst (IsTallied ts c.args.history.now c.args.t) (sym c.in-Some.ensures) (i.tallied c.args.t) in
    (k.0, past_some c.args.trees.now c.args.tallies.now ts c.args.history.now i c.args.t k.0 (c.live.ensures.0 c.if-not-live.false))

pub returns-clause-past : goal.returns-clause-past
returns-clause-past c = λ ts i.
    let k = subst (IsTallied ts c.args.history.now c.args.t) (sym c.in-Some.ensures) (i.tallied c.args.t) in
    let live = past_some c.args.trees.now c.args.tallies.now ts c.args.history.now i c.args.t k.0 (c.live.ensures.0 c.if-not-live.false) in
    ask_live c.args.trees.now c.args.tallies.now c.put.new.values ts c.args.history.now c.args.t c.in-Some.tally.now k.0 k.1 live
    (record { 0 = c.in-Some-checked_add.next }) (grind (arith, c.in-Some-checked_add.ensures)) (c.put.ensures.puts (place_at c.args.tallies.now c.args.t c.in-Some.tally.now (sym c.in-Some.ensures))) i
