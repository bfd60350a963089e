use Rattle.std.proofs.Common.{◌∙◌, cond, nat_eq, take, Some, None, sym, ap}
use Rattle.std.specs.HashMap.{get}
use Rattle.std.proofs.lemmas.List.{take_all}
use Rattle.ax_trees.specs.Lists.{first_that}
use Rattle.ax_trees.specs.Spots.{or_else}
use Rattle.ax_managers.specs.Naming.{is_id}
use Rattle.ax_managers.proofs.Lists.{first_next}
use Rattle.ax_managers.proofs.contest.firsts_of.Goals as goal

pub loop-id-preserved : goal.loop-id-preserved
loop-id-preserved c u =
    c.in_ok-add_first.ensures u
    ∙ (ap (λ o. or_else o (cond (is_id c.name_in.result u) (Some c.id-item.result) None)) (c.loop-id.invariant u)
    ∙ (ap (λ o. or_else (first_that (λ z. is_id (get nat_eq c.args.names.now z) u) (take c.loop-id.id-index c.args.ids.now)) (cond (is_id o u) (Some c.id-item.result) None)) c.name_in.ensures
    ∙ sym (first_next (λ z. is_id (get nat_eq c.args.names.now z) u) c.args.ids.now c.loop-id.id-index c.id-item.result (record { low = c.loop-id-test.true; item = c.id-item.is }))))

pub returns : goal.returns
returns c u = c.loop-id.invariant u ∙ ap (first_that (λ z. is_id (get nat_eq c.args.names.now z) u)) (take_all c.loop-id.id-index c.args.ids.now c.loop-id-test.false)
