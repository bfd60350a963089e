use Rattle.std.proofs.Common.{nat_eq, take, ap, ◌∙◌}
use Rattle.std.specs.HashMap.{get}
use Rattle.ax_actions.specs.Acting.{place_in, trees_in}
use Rattle.ax_actions.proofs.SharingLemmas.{found_in, shared_more, shared_all}
use Rattle.ax_actions.proofs.sharing.shares_of.Goals as goal

pub loop-action-init : goal.loop-action-init
loop-action-init c = c.in_ok-shares.ensures

pub give-requires : goal.give-requires
give-requires c =
    let t = c.action-item.result.tree in
    let found = c.in_ok-places.ensures t ∙ ap (λ s. place_in (trees_in s) t) c.as_slice.ensures.value in
    found_in (take c.loop-action.action-index c.as_slice-list.result.now) c.args.frames.items c.in_ok-shares.shares.items c.loop-action.shares.items t (get nat_eq c.in_ok-places.places t) c.in_ok-shares.ensures
    c.loop-action.invariant found

pub loop-action-preserved : goal.loop-action-preserved
loop-action-preserved c =
    let t = c.action-item.result.tree in
    let found = c.in_ok-places.ensures t ∙ ap (λ s. place_in (trees_in s) t) c.as_slice.ensures.value in
    let there =
    found_in (take c.loop-action.action-index c.as_slice-list.result.now) c.args.frames.items c.in_ok-shares.shares.items c.loop-action.shares.items t (get nat_eq c.in_ok-places.places t) c.in_ok-shares.ensures
    c.loop-action.invariant found in
    shared_more c.as_slice-list.result.now c.loop-action.action-index c.action-item.result c.args.frames.items c.loop-action.shares.items c.give.new.shares.items (get nat_eq c.in_ok-places.places t) c.requires
    c.loop-action-test.true c.action-item.is c.loop-action.invariant there c.in_ok-give.ensures

pub returns : goal.returns
returns c = shared_all c.as_slice-list.result.now c.args.actions.now c.loop-action.action-index c.args.frames.items c.loop-action.shares.items c.loop-action-test.false c.as_slice-list.ensures c.loop-action.invariant
