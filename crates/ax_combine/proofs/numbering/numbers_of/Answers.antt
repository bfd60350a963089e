use Rattle.std.proofs.Common.{◌≡◌, ◌<◌, ◌+◌, ◌-◌, length, nat_eq, refl, ap, arith}
use Rattle.std.specs.HashMap.{get}
use Rattle.std.specs.Map.{lookup}
use Rattle.ax_rules.specs.StitchedTree.{place_number}
use Rattle.ax_combine.proofs.Maps.{since_none, since_step, since_all}
use Rattle.ax_combine.proofs.numbering.numbers_of.Goals as goal

pub loop-left-init : goal.loop-left-init
loop-left-init c = record {
  within = omega arith;
  since = since_none _ c.args.places.now (length c.args.places.now) (omega arith) (λ z. ap (λ es. lookup (nat_eq z) es) c.new-numbers.ensures.empty);
}

pub loop-left-preserved : goal.loop-left-preserved
loop-left-preserved c =
    let back : c.loop-left.left ≡ c.loop-left.left - 1 + 1 = omega (arith, c.loop-left-test.true) in
    record {
      within = omega (arith, c.loop-left.invariant.within);
      since = since_step (get nat_eq c.loop-left.numbers) (get nat_eq c.put_number.new.numbers) c.args.places.now c.loop-left.left (c.loop-left.left - 1) c.index-places-left.result (place_number c.index-places-left.result)
          (c.loop-left.left - 1 + 1) back c.loop-left.invariant.within c.index-places-left.is c.put_number.ensures.small refl refl c.loop-left.invariant.since c.in_ok-put_number.ensures.put;
    }

pub returns : goal.returns
returns c = since_all (get nat_eq c.loop-left.numbers) c.args.places.now c.loop-left.left (omega (arith, c.loop-left-test.false)) c.loop-left.invariant.since
