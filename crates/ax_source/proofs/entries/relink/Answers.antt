use Rattle.std.proofs.Common.{sym, subst, ◌∙◌}
use Rattle.std.specs.Prelude.{nat_eq, IfSome, IsTrue}
use Rattle.std.specs.HashMap.{get}
use Rattle.std.proofs.lemmas.Bool.{eqb-true}
use Rattle.ax_trees.specs.Lists.{contains}
use Rattle.ax_source.specs.Changes.{above_set, child_added, child_dropped}
use Rattle.ax_source.proofs.Linked.{at_one, relinks_across, within_longer}
use Rattle.ax_source.proofs.entries.relink.Goals as goal

pub move_child-requires-clause-there : goal.move_child-requires-clause-there
move_child-requires-clause-there c =
    subst (λ z. IfSome (get nat_eq c.args.entries.now z) (λ e. IsTrue (contains e.node.children c.args.moved))) (eqb-true c.args.old c.args.new (sym c.eq.ensures ∙ c.if-eq.true)) c.requires.there

pub add_child-requires : goal.add_child-requires
add_child-requires c = within_longer c.args.moved c.args.index _ c.requires.within

pub returns-clause-ok : goal.returns-clause-ok
returns-clause-ok c =
    relinks_across _ _ _ _ c.args.moved c.args.old c.args.new c.args.index (sym c.eq.ensures ∙ c.if-eq.false)
    (at_one _ _ c.args.new (child_added c.args.index c.args.moved) c.in_ok-add_child.ensures.here c.in_ok-add_child.ensures.others)
    (at_one _ _ c.args.old (child_dropped c.args.moved) c.drop_child.ensures.here c.drop_child.ensures.others)
    (at_one _ _ c.args.moved (above_set c.args.new) c.set_above-2.ensures.here c.set_above-2.ensures.others)
