use Rattle.std.proofs.Common.{◌∷◌, drop, refl, sym, ap, ◌∙◌, subst, Some}
use Rattle.ax_ask.specs.declared.op.Item.TheVariants as items
use Rattle.ax_run_rules.specs.States.{State}
use Rattle.ax_run_rules.specs.Steps.{step}
use Rattle.ax_forest.specs.Past.{Past}
use Rattle.ax_core.specs.Items.{Answers}
use Rattle.ax_core.specs.Standing.{at, state_of}
use Rattle.ax_core.proofs.Answering.{browser_answers, no_browser}
use Rattle.ax_core.proofs.Kept.{kept_browser}
use Rattle.ax_core.proofs.Seated.{good_first}
use Rattle.ax_core.proofs.run.Core.next_browser.Goals as goal

pub returns-in_default-clause-done : goal.returns-in_default-clause-done
returns-in_default-clause-done c =
    let s = state_of c.self.inside.seats.items c.self.inside.browser c.self.inside.readers.items c.self.inside.forest.history in
    (ap (λ (x : State). step (at x) items.Browser) (sym c.self.view_is) ∙ no_browser s c.in_default.ensures, refl)

pub browse-requires-clause-good : goal.browse-requires-clause-good
browse-requires-clause-good c =
    let s = state_of c.self.inside.seats.items c.self.inside.browser c.self.inside.readers.items c.self.inside.forest.history in
    good_first s c.self.inside.places c.self.inside.forest.trees c.in-Some.next.now (drop 1 c.self.inside.browser) c.self.invariant c.in-Some.ensures

pub invariant_of-self-2 : goal.invariant_of-self-2
invariant_of-self-2 c =
    let s = state_of c.self.inside.seats.items c.self.inside.browser c.self.inside.readers.items c.self.inside.forest.history in
    kept_browser s c.self.inside.places c.self.inside.forest.trees c.in-Some.next.now c.drop_first.new.self c.self.inside.forest c.browse.new.forest c.self.invariant
    (c.in-Some.ensures ∙ ap (λ l. c.in-Some.next.now ∷ l) (sym c.drop_first.ensures)) refl refl c.in_ok-line.ensures.after

pub returns-clause-done : goal.returns-clause-done
returns-clause-done c =
    let s = state_of c.self.inside.seats.items c.self.inside.browser c.self.inside.readers.items c.self.inside.forest.history in
    subst (λ (x : State). Answers x items.Browser (record s { browser = c.drop_first.new.self; history = c.browse.new.forest.history }) (Some c.in_ok-line.line)) c.self.view_is
    (browser_answers s c.in-Some.next.now c.drop_first.new.self c.in_ok-line.line c.browse.new.forest.history
    (c.in-Some.ensures ∙ ap (λ l. c.in-Some.next.now ∷ l) (sym c.drop_first.ensures)) c.in_ok-line.ensures.line (ap (λ (p : Past). p.history) c.in_ok-line.ensures.after))
