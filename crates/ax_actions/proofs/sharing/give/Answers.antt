use Rattle.std.proofs.Common.{◌≡◌, ◌<◌, nat_eq, length, slice_set, refl, sym, ap, subst, ◌∙◌, arith, Option}
use Rattle.std.specs.HashMap.{get}
use Rattle.std.proofs.lemmas.Option.{slice_get_read}
use Rattle.ax_actions.specs.Acting.{Gives, trees_in}
use Rattle.ax_actions.proofs.ActingLemmas.{on_ok}
use Rattle.ax_actions.proofs.SharingLemmas.{length_trees, place_below}
use Rattle.ax_actions.proofs.sharing.give.Goals as goal

pub index_mut-requires : goal.index_mut-requires
index_mut-requires c =
    let shares = c.args.shares.now.items in
    let low = place_below (trees_in shares) c.args.action.now.tree c.in-Some.at.now (sym (c.in-Some.ensures.value ∙ c.requires)) in
    omega (arith, low, length_trees shares, c.args.shares.now.ok.0)

pub returns-in-Some : goal.returns-in-Some
returns-in-Some c =
    let shares = c.args.shares.now.items in
    let low = place_below (trees_in shares) c.args.action.now.tree c.in-Some.at.now (sym (c.in-Some.ensures.value ∙ c.requires)) in
    let within : c.in-Some.at.now < length shares = omega (arith, low, length_trees shares) in
    let there = slice_get_read shares (length shares) c.in-Some.at.now c.index_mut.result.now refl within c.index_mut.ensures.value in
    on_ok c.add_own.result _ _ c.add_own.ensures
    (λ e. subst (λ o. Gives c.args.action.now o shares (slice_set shares c.in-Some.at.now c.add_own.new.share)) c.in-Some.ensures.value (c.index_mut.result.now, there, ap (slice_set shares c.in-Some.at.now) e))
