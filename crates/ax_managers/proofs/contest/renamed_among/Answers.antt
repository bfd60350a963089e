use Rattle.std.proofs.Common.{◌≡◌, ◌∙◌, cond, eqb, true, false, take, sym, ap, subst}
use Rattle.std.specs.FinMap as fin
use Rattle.std.proofs.lemmas.Bool.{eqb-true, false≢true, false_from_ne_true}
use Rattle.std.proofs.lemmas.List.{take_all}
use Rattle.ax_trees.specs.Lists.{contains}
use Rattle.ax_trees.proofs.Trees.{by_go}
use Rattle.ax_managers.specs.Naming.{named_at}
use Rattle.ax_managers.proofs.contest.renamed_among.Goals as goal
use Rattle.ax_trees.proofs.Lists.{contains_next}

pub loop-id-preserved : goal.loop-id-preserved
loop-id-preserved g c z h n =
    by_go (eqb c.id-item.result z)
    (λ q. subst (λ v. contains c.add_renamed.new.renamed v ≡ false → fin.get c.args.known.now v ≡ named_at (g.T.TreeView.tree c.args.t.now) v) (eqb-true c.id-item.result z q) c.in_ok-add_renamed.ensures.same n)
    (λ q. c.loop-id.invariant z
    (sym (ap (λ b. cond b true (contains (take c.loop-id.id-index c.args.touched.now) z)) q)
    ∙ (sym (contains_next _ c.loop-id.id-index c.id-item.result z (record { low = c.loop-id-test.true; item = c.id-item.is })) ∙ h))
    (false_from_ne_true _ (λ t. false≢true (sym n ∙ c.in_ok-add_renamed.ensures.grows z t))))

pub returns : goal.returns
returns g c z h = c.loop-id.invariant z (ap (λ xs. contains xs z) (take_all c.loop-id.id-index c.args.touched.now c.loop-id-test.false) ∙ h)
