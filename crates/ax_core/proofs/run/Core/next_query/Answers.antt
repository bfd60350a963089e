use Rattle.std.proofs.Common.{◌≡◌, inl, inr, suc, length, refl, sym, ap, ◌∙◌, subst, arith, IfOk}
use Rattle.std.specs.Prelude.{slice_set}
use Rattle.std.proofs.lemmas.Option.{slice_get_read}
use Rattle.ax_ask.specs.declared.op.Item.TheVariants as items
use Rattle.ax_run_rules.specs.States.{State}
use Rattle.ax_run_rules.specs.Steps.{step}
use Rattle.ax_core.specs.Items.{Answers}
use Rattle.ax_core.specs.Standing.{at, state_of}
use Rattle.ax_core.proofs.Answering.{query_results, no_reader}
use Rattle.ax_core.proofs.Forests.{kept_forest}
use Rattle.ax_core.proofs.run.Core.next_query.Goals as goal

pub returns-in_default-clause-done : goal.returns-in_default-clause-done
returns-in_default-clause-done c = (no_reader c.args.self.now c.args.number (inl (omega (arith, c.in_default.ensures))), refl)

pub returns-then-at-len-clause-done : goal.returns-then-at-len-clause-done
returns-then-at-len-clause-done c =
    let s = state_of c.self.inside.seats.items c.self.inside.browser c.self.inside.readers.items c.self.inside.forest.history in
    (ap (λ (x : State). step (at x) (items.Reader c.args.number)) (sym c.self.view_is) ∙ no_reader s c.args.number (inr (omega arith)), refl)

pub returns-clause-done : goal.returns-clause-done
returns-clause-done c =
    let s = state_of c.self.inside.seats.items c.self.inside.browser c.self.inside.readers.items c.self.inside.forest.history in
    let number : c.args.number ≡ suc c.in-Some.at = omega (arith, c.in-Some.ensures) in
    let long : c.len.result ≡ length c.self.inside.readers.items = omega (arith, c.len.ensures, c.self.inside.readers.ok.0) in
    let h = slice_get_read c.self.inside.readers.items c.len.result c.in-Some.at c.index_mut.result.now long (omega arith) c.index_mut.ensures.value in
    subst (λ (x : State). IfOk c.ask_next.result (λ o. Answers x (items.Reader c.args.number) (record s { readers = slice_set c.self.inside.readers.items c.in-Some.at c.ask_next.new.reader }) o)) c.self.view_is
    (query_results c.ask_next.result s c.args.number c.in-Some.at c.index_mut.result.now c.ask_next.new.reader c.self.inside.forest number h (kept_forest s c.self.inside.places c.self.inside.forest.trees c.self.invariant) c.ask_next.ensures.done)
