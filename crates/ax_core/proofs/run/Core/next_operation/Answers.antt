use Rattle.std.proofs.Common.{◌≡◌, ◌⊎◌, refl, sym, ap, ◌∙◌, subst, arith, IfOk, OnErr}
use Rattle.ax_ask.specs.declared.op.Item.TheVariants as items
use Rattle.ax_run_rules.specs.States.{State}
use Rattle.ax_run_rules.specs.Steps.{step}
use Rattle.ax_core.specs.Items.{Answers, IsCut}
use Rattle.ax_core.specs.Standing.{at, state_of}
use Rattle.ax_core.proofs.Found.{seat_place, seat_below, seat_read, leaves_at, no_place}
use Rattle.ax_core.proofs.FrameItems.{put, no_frame}
use Rattle.ax_core.proofs.Seated.{next_answers, next_cut, next_kept}
use Rattle.ax_core.proofs.run.Core.next_operation.Goals as goal

pub index_mut-requires : goal.index_mut-requires
index_mut-requires c =
    let s = state_of c.self.inside.seats.items c.self.inside.browser c.self.inside.readers.items c.self.inside.forest.history in
    let low = seat_below s c.self.inside.places c.args.tree c.in-Some.at c.self.invariant.places c.in-Some.ensures in
    omega (arith, low, c.self.inside.seats.ok.0)

pub next-requires : goal.next-requires
next-requires c =
    let s = state_of c.self.inside.seats.items c.self.inside.browser c.self.inside.readers.items c.self.inside.forest.history in
    let f = c.index_mut.result.now in
    let h = seat_read s c.self.inside.places c.args.tree c.in-Some.at f c.self.invariant.places c.in-Some.ensures c.index_mut.ensures.value in
    leaves_at s c.in-Some.at f c.self.invariant.stands.leaves h

pub invariant_of-self : goal.invariant_of-self
invariant_of-self c =
    let s = state_of c.self.inside.seats.items c.self.inside.browser c.self.inside.readers.items c.self.inside.forest.history in
    let f = c.index_mut.result.now in
    let h = seat_read s c.self.inside.places c.args.tree c.in-Some.at f c.self.invariant.places c.in-Some.ensures c.index_mut.ensures.value in
    next_kept c.next.result s c.self.inside.places c.self.inside.forest.trees c.in-Some.at f c.next.new.self c.self.invariant h c.next.ensures.done c.next.ensures.broken c.next.ensures.fits

pub returns-in-Some-clause-done : goal.returns-in-Some-clause-done
returns-in-Some-clause-done c =
    let s = state_of c.self.inside.seats.items c.self.inside.browser c.self.inside.readers.items c.self.inside.forest.history in
    let f = c.index_mut.result.now in
    let h = seat_read s c.self.inside.places c.args.tree c.in-Some.at f c.self.invariant.places c.in-Some.ensures c.index_mut.ensures.value in
    let p = seat_place s c.self.inside.places c.args.tree c.in-Some.at c.self.invariant.places c.in-Some.ensures in
    subst (λ (x : State). IfOk c.next.result (λ o. Answers x (items.Frame c.args.tree) (put s c.in-Some.at c.next.new.self) o)) c.self.view_is
    (next_answers c.next.result s c.args.tree c.in-Some.at f c.next.new.self c.self.invariant.stands.apart p h c.next.ensures.done)

pub returns-in-Some-clause-err : goal.returns-in-Some-clause-err
returns-in-Some-clause-err c =
    let s = state_of c.self.inside.seats.items c.self.inside.browser c.self.inside.readers.items c.self.inside.forest.history in
    let f = c.index_mut.result.now in
    let h = seat_read s c.self.inside.places c.args.tree c.in-Some.at f c.self.invariant.places c.in-Some.ensures c.index_mut.ensures.value in
    let p = seat_place s c.self.inside.places c.args.tree c.in-Some.at c.self.invariant.places c.in-Some.ensures in
    subst (λ (x : State). OnErr c.next.result ((put s c.in-Some.at c.next.new.self ≡ x) ⊎ IsCut x (items.Frame c.args.tree) (put s c.in-Some.at c.next.new.self))) c.self.view_is
    (next_cut c.next.result s c.args.tree c.in-Some.at f c.next.new.self c.self.invariant.stands.apart p h c.next.ensures.broken)

pub returns-in-None-clause-done : goal.returns-in-None-clause-done
returns-in-None-clause-done c =
    let s = state_of c.self.inside.seats.items c.self.inside.browser c.self.inside.readers.items c.self.inside.forest.history in
    (ap (λ (x : State). step (at x) (items.Frame c.args.tree)) (sym c.self.view_is) ∙ no_frame s c.args.tree (no_place s c.self.inside.places c.args.tree c.self.invariant.places c.in-None.ensures), refl)
