use Rattle.std.proofs.Common.{◌≡◌, sym, ◌∙◌, arith, not, true, false, Bool, eqb, refl}
use Rattle.std.proofs.lemmas.Bool.{eqb-true}
use Rattle.ax_source.proofs.Lists.{removed_here}
use Rattle.ax_source.proofs.children.place_of.Goals as goal

same_from : (b : Bool) → not b ≡ false → b ≡ true
same_from true h = refl
same_from false h = sym h

pub returns-else-ne-clause-first : goal.returns-else-ne-clause-first
returns-else-ne-clause-first c =
    let equal : eqb c.index-ids-at.result c.args.id ≡ true = same_from (eqb c.index-ids-at.result c.args.id) (sym c.ne.ensures ∙ c.if-ne.false) in
    sym c.loop-at.invariant.front
    ∙ removed_here c.args.id c.args.ids.now c.loop-at.at c.index-ids-at.result (omega arith)
    (sym c.index-ids-at.is ∙ eqb-true c.index-ids-at.result c.args.id equal)
