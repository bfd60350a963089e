use Rattle.std.proofs.Common.{arith}
use Rattle.std.proofs.lemmas.Option.{slice_get_within}
use Rattle.ax_client.proofs.Parts.{parting_begins, parting_found, parting_new, parting_ends}
use Rattle.ax_client.proofs.parting.part.Goals as goal

pub loop-id-init : goal.loop-id-init
loop-id-init c = record { within = omega arith; left = parting_begins c.args.old.now c.args.new.now _ _ c.new-gone.ensures c.new-come.ensures }

pub loop-id-preserved-in-Some : goal.loop-id-preserved-in-Some
loop-id-preserved-in-Some c =
    let low = slice_get_within c.args.old.now c.in-Some.place c.id-item.result c.in-Some.ensures.found in
    record {
      within = omega (arith, low);
      left = parting_found c.args.old.now c.args.new.now c.loop-id.passed c.loop-id.id-index c.in-Some.place c.id-item.result _ _ _ c.in-Some.ensures.from c.in-Some.ensures.found c.loop-id-test.true c.id-item.is
          c.in_ok-push_all.ensures c.loop-id.invariant.left;
    }

pub loop-id-preserved : goal.loop-id-preserved
loop-id-preserved c = record {
  within = c.loop-id.invariant.within;
  left = parting_new c.args.old.now c.args.new.now c.loop-id.passed c.loop-id.id-index c.id-item.result _ _ _ c.loop-id-test.true c.id-item.is c.in_ok-push.ensures.ok c.loop-id.invariant.left;
}

pub returns : goal.returns
returns c = parting_ends c.args.old.now c.args.new.now c.loop-id.passed c.loop-id.id-index _ _ _ c.loop-id-test.false c.in_ok-push_all-2.ensures c.loop-id.invariant.left
