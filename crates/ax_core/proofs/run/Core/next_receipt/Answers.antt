use Rattle.std.proofs.Common.{◌≡◌, refl, sym, ap, ◌∙◌, subst, arith, IfOk, OnErr}
use Rattle.ax_ask.specs.declared.op.Item.TheVariants as items
use Rattle.ax_run_rules.specs.States.{State}
use Rattle.ax_run_rules.specs.Steps.{step}
use Rattle.ax_core.specs.Items.{Answers}
use Rattle.ax_core.specs.Standing.{at, state_of}
use Rattle.ax_core.proofs.Found.{seat_place, seat_below, seat_read, no_place}
use Rattle.ax_core.proofs.FrameItems.{put, no_receipt}
use Rattle.ax_core.proofs.Seated.{fits_at, receipt_results, receipt_refused, receipt_kept}
use Rattle.ax_core.proofs.run.Core.next_receipt.Goals as goal

pub index_mut-requires : goal.index_mut-requires
index_mut-requires c =
    let s = state_of c.self.inside.seats.items c.self.inside.browser c.self.inside.readers.items c.self.inside.forest.history in
    let low = seat_below s c.self.inside.places c.args.tree c.in-Some.at c.self.invariant.places c.in-Some.ensures in
    omega (arith, low, c.self.inside.seats.ok.0)

pub receive-requires : goal.receive-requires
receive-requires c =
    let s = state_of c.self.inside.seats.items c.self.inside.browser c.self.inside.readers.items c.self.inside.forest.history in
    let f = c.index_mut.result.now in
    let h = seat_read s c.self.inside.places c.args.tree c.in-Some.at f c.self.invariant.places c.in-Some.ensures c.index_mut.ensures.value in
    fits_at s c.self.inside.places c.self.inside.forest.trees c.in-Some.at f c.self.invariant h

pub invariant_of-self : goal.invariant_of-self
invariant_of-self c =
    let s = state_of c.self.inside.seats.items c.self.inside.browser c.self.inside.readers.items c.self.inside.forest.history in
    let f = c.index_mut.result.now in
    let h = seat_read s c.self.inside.places c.args.tree c.in-Some.at f c.self.invariant.places c.in-Some.ensures c.index_mut.ensures.value in
    receipt_kept c.receive.result s c.self.inside.places c.self.inside.forest.trees c.in-Some.at f c.receive.new.self c.self.inside.forest c.receive.new.forest c.self.invariant h refl refl c.receive.ensures.rest c.receive.ensures.done c.receive.ensures.forest c.receive.ensures.err

pub returns-in-Some-clause-done : goal.returns-in-Some-clause-done
returns-in-Some-clause-done c =
    let s = state_of c.self.inside.seats.items c.self.inside.browser c.self.inside.readers.items c.self.inside.forest.history in
    let f = c.index_mut.result.now in
    let h = seat_read s c.self.inside.places c.args.tree c.in-Some.at f c.self.invariant.places c.in-Some.ensures c.index_mut.ensures.value in
    let p = seat_place s c.self.inside.places c.args.tree c.in-Some.at c.self.invariant.places c.in-Some.ensures in
    subst (λ (x : State). IfOk c.receive.result (λ o. Answers x (items.Receive c.args.tree) (record (put s c.in-Some.at c.receive.new.self) { history = c.receive.new.forest.history }) o)) c.self.view_is
    (receipt_results c.receive.result s c.args.tree c.in-Some.at f c.receive.new.self c.self.inside.forest c.receive.new.forest c.self.invariant.stands.apart p h refl c.receive.ensures.rest c.receive.ensures.done)

pub returns-in-Some-clause-err : goal.returns-in-Some-clause-err
returns-in-Some-clause-err c =
    let s = state_of c.self.inside.seats.items c.self.inside.browser c.self.inside.readers.items c.self.inside.forest.history in
    let f = c.index_mut.result.now in
    let h = seat_read s c.self.inside.places c.args.tree c.in-Some.at f c.self.invariant.places c.in-Some.ensures c.index_mut.ensures.value in
    subst (λ (x : State). OnErr c.receive.result (record (put s c.in-Some.at c.receive.new.self) { history = c.receive.new.forest.history } ≡ x)) c.self.view_is
    (receipt_refused c.receive.result s c.in-Some.at f c.receive.new.self c.self.inside.forest c.receive.new.forest h refl c.receive.ensures.forest c.receive.ensures.err)

pub returns-in-None-clause-done : goal.returns-in-None-clause-done
returns-in-None-clause-done c =
    let s = state_of c.self.inside.seats.items c.self.inside.browser c.self.inside.readers.items c.self.inside.forest.history in
    (ap (λ (x : State). step (at x) (items.Receive c.args.tree)) (sym c.self.view_is) ∙ no_receipt s c.args.tree (no_place s c.self.inside.places c.args.tree c.self.invariant.places c.in-None.ensures), refl)
