use Rattle.std.proofs.Common.{◌≡◌, ◌∙◌, cond, eqb, true, false, nat_eq, take, sym, ap, subst}
use Rattle.std.specs.HashMap.{get}
use Rattle.std.proofs.lemmas.Bool.{eqb-true}
use Rattle.std.proofs.lemmas.List.{take_all}
use Rattle.ax_trees.specs.Lists.{contains}
use Rattle.ax_trees.proofs.Trees.{by_go}
use Rattle.ax_trees.proofs.Lists.{contains_next}
use Rattle.ax_order.specs.Marks.{is_marked}
use Rattle.ax_managers.proofs.index.none_is_watched.Goals as goal

pub loop-id-preserved : goal.loop-id-preserved
loop-id-preserved c z h =
    by_go (eqb c.id-item.result z)
    (λ q. subst (λ v. is_marked (get nat_eq c.args.watched.now) v ≡ false) (eqb-true c.id-item.result z q) (sym c.contains_key.ensures ∙ c.if-contains_key.false))
    (λ q. c.loop-id.invariant z
    (sym (ap (λ b. cond b true (contains (take c.loop-id.id-index c.args.ids.now) z)) q)
    ∙ (sym (contains_next _ c.loop-id.id-index c.id-item.result z (record { low = c.loop-id-test.true; item = c.id-item.is })) ∙ h)))

pub returns : goal.returns
returns c _ z h = c.loop-id.invariant z (ap (λ xs. contains xs z) (take_all c.loop-id.id-index c.args.ids.now c.loop-id-test.false) ∙ h)
