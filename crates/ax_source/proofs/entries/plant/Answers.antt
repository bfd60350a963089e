use Rattle.std.proofs.Common.{◌≡◌, sym, ap, subst, ◌∙◌}
use Rattle.std.specs.Prelude.{nat_eq, option_map}
use Rattle.std.specs.HashMap.{get}
use Rattle.std.proofs.lemmas.Bool.{eqb-true, eqb-false, cond-true}
use Rattle.ax_source.specs.Changes.{child_added}
use Rattle.ax_source.proofs.Linked.{err_at, ok_at}
use Rattle.ax_source.proofs.entries.plant.Goals as goal

pub add_child-requires : goal.add_child-requires
add_child-requires c = rw (c.reserve.ensures.entries.2 c.args.parent) c.requires.within

pub returns-then-is_err-2-clause-err : goal.returns-then-is_err-2-clause-err
returns-then-is_err-2-clause-err c =
    let failed = sym c.is_err-2.ensures.value ∙ c.if-is_err-2.true in
    λ q. err_at c.add_child.result _ failed c.add_child.ensures.err q ∙ c.reserve.ensures.entries.2 q

pub returns-clause-ok : goal.returns-clause-ok
returns-clause-ok c =
    let given = sym c.is_err-2.ensures.value ∙ c.if-is_err-2.false in
    let put = sym c.is_err-3.ensures.value ∙ c.if-is_err-3.false in
    let here = ok_at c.add_child.result _ given c.add_child.ensures.here in
    let updates = ok_at c.insert.result _ put c.insert.ensures.updates in
    record {
      at_leaf = λ q e. updates.0 q ∙ cond-true _ _ _ e;
      at_parent = λ q e g. updates.2 q e ∙
          subst (λ z. get nat_eq c.add_child.new.entries z ≡ option_map (child_added c.args.index c.args.node.id) (get nat_eq c.args.entries.now z)) (eqb-true c.args.parent q g)
          (here ∙ ap (option_map (child_added c.args.index c.args.node.id)) (c.reserve.ensures.entries.2 c.args.parent));
      others = λ q e g. updates.2 q e ∙ c.add_child.ensures.others q (eqb-false c.args.parent q g) ∙ c.reserve.ensures.entries.2 q;
    }
