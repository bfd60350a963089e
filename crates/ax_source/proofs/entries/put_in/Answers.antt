use Rattle.std.proofs.Common.{Option, subst, refl}
use Rattle.std.specs.Prelude.{IsSome}
use Rattle.std.proofs.lemmas.Bool.{ne_eqb}
use Rattle.ax_source.specs.declared.entries.Entry.{Entry}
use Rattle.ax_source.proofs.entries.put_in.Goals as goal

pub returns-in-Some-clause-others : goal.returns-in-Some-clause-others
returns-in-Some-clause-others c =
    let there = subst (λ (o : Option Entry). IsSome o) c.in-Some.ensures.value refl in
    λ q ne. ((c.get_mut.follows.holds _).3 there).2 q (ne_eqb c.args.set.now.node q ne)
