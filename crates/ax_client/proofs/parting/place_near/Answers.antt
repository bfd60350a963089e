use Rattle.std.proofs.Common.{◌≡◌, ◌<◌, false, eqb, length, ap, arith}
use Rattle.std.proofs.lemmas.List.Edits.{between_none}
use Rattle.ax_trees.specs.Lists.{contains}
use Rattle.ax_client.proofs.Parts.{not_near, not_next}
use Rattle.ax_client.proofs.parting.place_near.Goals as goal

pub loop-at-init : goal.loop-at-init
loop-at-init c = record {
  above = omega arith;
  within = c.near_end-end.ensures.above;
  none = ap (λ js. contains js c.args.id) (between_none c.args.ids.now c.args.from);
}

pub loop-at-preserved : goal.loop-at-preserved
loop-at-preserved c =
    let low : c.loop-at.at < length c.args.ids.now = omega (arith, c.loop-at-test.true, c.near_end-end.ensures.within) in
    let no : eqb c.index-ids-at.result c.args.id ≡ false = grind (arith, c.eq.ensures, c.if-eq.false) in
    record {
      above = omega (arith, c.loop-at.invariant.above);
      within = omega (arith, c.loop-at-test.true);
      none = not_next c.args.ids.now c.args.from c.loop-at.at c.index-ids-at.result c.args.id c.loop-at.invariant.above low c.index-ids-at.is no c.loop-at.invariant.none;
    }

pub returns-clause-none : goal.returns-clause-none
returns-clause-none c =
    not_near c.args.ids.now c.args.from c.near_end-end.result c.loop-at.at c.args.id (omega (arith, c.loop-at-test.false)) c.loop-at.invariant.within c.near_end-end.ensures.near c.near_end-end.ensures.all c.loop-at.invariant.none
