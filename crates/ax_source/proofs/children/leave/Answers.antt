use Rattle.std.proofs.Common.{ℕ, List, get_or, sym, ap, ◌∙◌, arith}
use Rattle.std.specs.Prelude.{remove}
use Rattle.std.proofs.lemmas.Bool.{eqb-true}
use Rattle.ax_source.proofs.Lists.{removed_here}
use Rattle.ax_source.proofs.children.leave.Goals as goal

pub returns-then-eq : goal.returns-then-eq
returns-then-eq c =
    let here = sym (c.index-as_slice-i.is ∙ ap (λ (js : List ℕ). get_or js c.loop-i.i c.index-as_slice-i.result) (c.as_slice.ensures ∙ c.loop-i.invariant.same)) in
    c.remove.ensures.rest ∙ ap (λ (js : List ℕ). remove js c.loop-i.i) c.loop-i.invariant.same
    ∙ sym (removed_here c.args.id c.args.ids.now c.loop-i.i c.index-as_slice-i.result (omega (arith, c.len-i-end.ensures))
    (here ∙ eqb-true c.index-as_slice-i.result c.args.id (sym c.eq.ensures ∙ c.if-eq.true)))
    ∙ c.loop-i.invariant.front
