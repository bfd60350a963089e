use Rattle.std.proofs.Common.{ℕ, List, Option, Some, ap, subst, ◌∙◌, refl}
use Rattle.std.specs.Prelude.{nat_eq, IsSome}
use Rattle.std.specs.HashMap.{get}
use Rattle.std.proofs.lemmas.Bool.{ne_eqb, eqb-true}
use Rattle.ax_source.specs.declared.entries.Entry.{Entry}
use Rattle.ax_source.proofs.Linked.{on_err, same_back}
use Rattle.ax_source.proofs.entries.move_child.Goals as goal

pub returns-in-Some-clause-others : goal.returns-in-Some-clause-others
returns-in-Some-clause-others c =
    let there = subst (λ (o : Option Entry). IsSome o) c.in-Some.ensures.value refl in
    λ q ne. ((c.get_mut.follows.holds _).3 there).2 q (ne_eqb c.args.parent q ne)

pub returns-in-Some-clause-err : goal.returns-in-Some-clause-err
returns-in-Some-clause-err c =
    let there = subst (λ (o : Option Entry). IsSome o) c.in-Some.ensures.value refl in
    on_err c.reorder.result _ _ c.reorder.ensures.err (λ same q.
    ((c.get_mut.follows.holds _).3 there).0 q ∙
    same_back _ _ _ (λ t.
    ap (λ (js : List ℕ). Some (record { node = record c.in-Some.entry.now.node { children = js }; above = c.in-Some.entry.now.above })) same
    ∙ c.in-Some.ensures.value ∙ ap (get nat_eq c.args.entries.now) (eqb-true c.args.parent q t)))
