use Rattle.std.proofs.Common.{◌≡◌, ◌<◌, ◌+◌, ◌-◌, length, nat_eq, sym, ap, ◌∙◌, arith}
use Rattle.std.specs.HashMap.{get}
use Rattle.std.specs.Map.{lookup}
use Rattle.ax_actions.specs.Acting.{trees_in}
use Rattle.ax_actions.proofs.SharingLemmas.{since_none, since_step, since_all, key_at, length_trees}
use Rattle.ax_actions.proofs.sharing.places_of.Goals as goal

pub loop-left-init : goal.loop-left-init
loop-left-init c =
    let n = length_trees c.args.shares.now in
    record {
      within = omega arith;
      since = λ t. ap (λ es. lookup (nat_eq t) es) c.new-places.ensures.empty ∙ sym (since_none (trees_in c.args.shares.now) (length c.args.shares.now) t (omega (arith, n)));
    }

pub loop-left-preserved : goal.loop-left-preserved
loop-left-preserved c =
    let ts = trees_in c.args.shares.now in
    let j = c.loop-left.left - 1 in
    let n = length_trees c.args.shares.now in
    let back : c.loop-left.left ≡ c.loop-left.left - 1 + 1 = omega (arith, c.loop-left-test.true) in
    let low : c.loop-left.left - 1 < length c.args.shares.now = omega (arith, c.loop-left-test.true, c.loop-left.invariant.within) in
    let key = key_at c.args.shares.now j c.index-shares-left.result c.tree.result low c.index-shares-left.is c.tree.ensures in
    record {
      within = omega (arith, c.loop-left.invariant.within);
      since = λ t.
          since_step ts c.loop-left.left j c.tree.result t (get nat_eq c.loop-left.places t) (get nat_eq c.put_place.new.places t) back (omega (arith, n, c.loop-left.invariant.within)) key (c.loop-left.invariant.since t)
          (c.in_ok-put_place.ensures t);
    }

pub returns : goal.returns
returns c = λ t. since_all (trees_in c.args.shares.now) c.loop-left.left t (get nat_eq c.loop-left.places t) (omega (arith, c.loop-left-test.false)) (c.loop-left.invariant.since t)
