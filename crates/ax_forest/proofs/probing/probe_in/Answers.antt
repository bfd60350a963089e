use Rattle.std.proofs.Common.{refl, sym, subst}
use Rattle.ax_tree.specs.Tree.{Tree}
use Rattle.ax_forest.specs.Entries.{IsProbed}
use Rattle.ax_forest.specs.Tallied.{IsTallied}
use Rattle.ax_forest.proofs.Pasts.{past_gone, past_live, probe_stays}
use Rattle.ax_forest.proofs.probing.probe_in.Goals as goal

pub returns-in_ok-push-in-Some-tree-clause-out : goal.returns-in_ok-push-in-Some-tree-clause-out
returns-in_ok-push-in-Some-tree-clause-out c = λ ts i.
    let k = subst (IsTallied ts c.args.history.now c.args.t) (sym c.in-Some.ensures) (i.tallied c.args.t) in
    let l = past_live c.args.trees.now c.args.tallies.now ts c.args.history.now i c.args.t k.0 c.in-Some-tree.mirror.now (sym c.in-Some-tree.ensures.tree) in
    subst (λ (m : Tree). IsProbed c.args.update.now m c.in_ok-out-in-Some-tree.out) l.1 c.in_ok-out-in-Some-tree.ensures

pub returns-in_ok-push-in-Some-tree-clause-answer : goal.returns-in_ok-push-in-Some-tree-clause-answer
returns-in_ok-push-in-Some-tree-clause-answer c = λ ts i.
    let k = subst (IsTallied ts c.args.history.now c.args.t) (sym c.in-Some.ensures) (i.tallied c.args.t) in
    (k.0, (past_live c.args.trees.now c.args.tallies.now ts c.args.history.now i c.args.t k.0 c.in-Some-tree.mirror.now (sym c.in-Some-tree.ensures.tree)).0)

pub returns-in_ok-push-in-Some-tree-clause-past : goal.returns-in_ok-push-in-Some-tree-clause-past
returns-in_ok-push-in-Some-tree-clause-past c = λ ts i. probe_stays c.args.trees.now c.args.tallies.now ts c.args.history.now c.args.t c.args.update.now i

pub returns-in_ok-push-in-None-clause-answer : goal.returns-in_ok-push-in-None-clause-answer
returns-in_ok-push-in-None-clause-answer c = λ ts i.
    let k = subst (IsTallied ts c.args.history.now c.args.t) (sym c.in-Some.ensures) (i.tallied c.args.t) in
    (refl, k.0, past_gone c.args.trees.now c.args.tallies.now ts c.args.history.now i c.args.t k.0 (sym c.in-None.ensures.tree))

pub returns-in_ok-push-in-None-clause-past : goal.returns-in_ok-push-in-None-clause-past
returns-in_ok-push-in-None-clause-past c = λ ts i. probe_stays c.args.trees.now c.args.tallies.now ts c.args.history.now c.args.t c.args.update.now i
