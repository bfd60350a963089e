use Rattle.std.proofs.Common.{refl, sym, ap, ◌∙◌, subst, arith, Some}
use Rattle.ax_ask.specs.declared.op.Item.TheVariants as items
use Rattle.ax_run_rules.specs.States.{State}
use Rattle.ax_run_rules.specs.Steps.{step}
use Rattle.ax_core.specs.Items.{Answers}
use Rattle.ax_core.specs.Standing.{at, state_of}
use Rattle.ax_core.proofs.Found.{seat_place, seat_below, seat_read, no_place}
use Rattle.ax_core.proofs.FrameItems.{put, no_delivery, delivery_answers}
use Rattle.ax_core.proofs.Seated.{delivery_kept}
use Rattle.ax_core.proofs.run.Core.delivery.Goals as goal

pub index_mut-requires : goal.index_mut-requires
index_mut-requires c =
    let s = state_of c.self.inside.seats.items c.self.inside.browser c.self.inside.readers.items c.self.inside.forest.history in
    let low = seat_below s c.self.inside.places c.args.tree c.in-Some.at c.self.invariant.places c.in-Some.ensures in
    omega (arith, low, c.self.inside.seats.ok.0)

pub invariant_of-self-in-Some : goal.invariant_of-self-in-Some
invariant_of-self-in-Some c =
    let s = state_of c.self.inside.seats.items c.self.inside.browser c.self.inside.readers.items c.self.inside.forest.history in
    let f = c.index_mut.result.now in
    let h = seat_read s c.self.inside.places c.args.tree c.in-Some.at f c.self.invariant.places c.in-Some.ensures c.index_mut.ensures.value in
    delivery_kept c.deliver.result s c.self.inside.places c.self.inside.forest.trees c.in-Some.at c.args.token.0 f c.deliver.new.self c.self.invariant h c.deliver.ensures.after c.deliver.ensures.err c.deliver.ensures.fits

pub returns-in_ok-deliver-in-Some-clause-done : goal.returns-in_ok-deliver-in-Some-clause-done
returns-in_ok-deliver-in-Some-clause-done c =
    let s = state_of c.self.inside.seats.items c.self.inside.browser c.self.inside.readers.items c.self.inside.forest.history in
    let f = c.index_mut.result.now in
    let h = seat_read s c.self.inside.places c.args.tree c.in-Some.at f c.self.invariant.places c.in-Some.ensures c.index_mut.ensures.value in
    let p = seat_place s c.self.inside.places c.args.tree c.in-Some.at c.self.invariant.places c.in-Some.ensures in
    subst (λ (x : State). Answers x (items.Deliver c.args.tree c.args.token) (put s c.in-Some.at c.deliver.new.self) (Some c.in_ok-deliver-in-Some.field-0)) c.self.view_is
    (delivery_answers s c.args.tree c.in-Some.at c.args.token f c.deliver.new.self c.in_ok-deliver-in-Some.field-0 c.self.invariant.stands.apart p h c.in_ok-deliver-in-Some.ensures.after c.in_ok-deliver-in-Some.ensures.line)

pub returns-in-None-clause-done : goal.returns-in-None-clause-done
returns-in-None-clause-done c =
    let s = state_of c.self.inside.seats.items c.self.inside.browser c.self.inside.readers.items c.self.inside.forest.history in
    (ap (λ (x : State). step (at x) (items.Deliver c.args.tree c.args.token)) (sym c.self.view_is) ∙ no_delivery s c.args.tree c.args.token (no_place s c.self.inside.places c.args.tree c.self.invariant.places c.in-None.ensures), refl)
