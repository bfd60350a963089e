use Rattle.std.proofs.Common.{◌∙◌, refl, sym, subst}
use Rattle.std.proofs.lemmas.Bool.{false≢true}
use Rattle.ax_forest.specs.Tallied.{IsTallied}
use Rattle.ax_forest.proofs.Pasts.{past_none, past_some, end_gone, end_live}
use Rattle.ax_forest.proofs.asking.destroy_in.Goals as goal

pub returns-then-not-live-clause-answer : goal.returns-then-not-live-clause-answer
returns-then-not-live-clause-answer c = λ ts i.
    let k = subst (IsTallied ts c.args.history.now c.args.t) (sym c.in-Some.ensures) (i.tallied c.args.t) in
    (refl, k.0, past_none c.args.trees.now c.args.tallies.now ts c.args.history.now i c.args.t k.0 (λ s. false≢true (sym c.if-not-live.true ∙ c.live.ensures.1 s)))

pub returns-then-not-live-clause-past : goal.returns-then-not-live-clause-past
returns-then-not-live-clause-past c = λ ts i.
    let k = subst (IsTallied ts c.args.history.now c.args.t) (sym c.in-Some.ensures) (i.tallied c.args.t) in
    let gone = past_none c.args.trees.now c.args.tallies.now ts c.args.history.now i c.args.t k.0 (λ s. false≢true (sym c.if-not-live.true ∙ c.live.ensures.1 s)) in
    end_gone c.args.trees.now c.args.tallies.now ts c.args.history.now c.args.t gone i

pub returns-clause-answer : goal.returns-clause-answer
returns-clause-answer c = λ ts i.
    let k = subst (IsTallied ts c.args.history.now c.args.t) (sym c.in-Some.ensures) (i.tallied c.args.t) in
    (k.0, past_some c.args.trees.now c.args.tallies.now ts c.args.history.now i c.args.t k.0 (c.live.ensures.0 c.if-not-live.false))

pub returns-clause-past : goal.returns-clause-past
returns-clause-past c = λ ts i. end_live c.args.trees.now c.drop_tree.new.self c.args.tallies.now ts c.args.history.now c.args.t c.in-Ok.ensures.ok i
