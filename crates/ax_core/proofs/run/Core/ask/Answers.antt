use Rattle.std.proofs.Common.{inl, inr, refl, ap, ◌∙◌}
use Rattle.std.proofs.lemmas.Result.{err_from_is_err_and}
use Rattle.ax_forest.specs.Past.{Past}
use Rattle.ax_frame.specs.Frames.{Journaled}
use Rattle.ax_core.specs.Standing.{state_of}
use Rattle.ax_core.proofs.Hearing.{told, breaks, follows}
use Rattle.ax_core.proofs.Telling.{read_at, tree_kept, kept_asked, asked_at, delivery_at}
use Rattle.ax_core.proofs.run.Core.ask.Goals as goal

pub ask-requires : goal.ask-requires
ask-requires g c =
    let s = state_of c.self.inside.seats.items c.self.inside.browser c.self.inside.readers.items c.self.inside.forest.history in
    let x = c.index.result.now in
    let h = read_at s c.args.self.now c.args.at x c.self.view_is c.requires c.index.ensures in
    let own = c.tree-tree.ensures ∙ ap (λ (j : Journaled). j.tree) c.frame.ensures in
    tree_kept s c.self.inside.forest.trees c.args.at c.tree-tree.result x c.self.invariant.trees h own

pub returns-in_err-line-clause-asked : goal.returns-in_err-line-clause-asked
returns-in_err-line-clause-asked g c =
    let p = err_from_is_err_and c.from_residual.result c.from_residual.ensures.1 in
    let same = ap (λ (q : Past). state_of c.self.inside.seats.items c.self.inside.browser c.self.inside.readers.items q.history) c.in_err-line.ensures.err ∙ c.self.view_is in
    rw (p.1) (breaks (λ ls f k. (refl, inl same)))

pub invariant_of-self-in_err-hear : goal.invariant_of-self-in_err-hear
invariant_of-self-in_err-hear g c =
    let s = state_of c.self.inside.seats.items c.self.inside.browser c.self.inside.readers.items c.self.inside.forest.history in
    kept_asked s c.self.inside.places c.self.inside.forest.trees c.ask.new.forest.trees c.tree-tree.result c.ask.new.forest.history c.self.invariant
    (ap (λ (p : Past). p.trees) c.in_ok-line.ensures.after) (ap (λ (p : Past). p.history) c.in_ok-line.ensures.after)

pub returns-in_err-hear-clause-asked : goal.returns-in_err-hear-clause-asked
returns-in_err-hear-clause-asked g c =
    let s = state_of c.self.inside.seats.items c.self.inside.browser c.self.inside.readers.items c.self.inside.forest.history in
    let x = c.index.result.now in
    let h = read_at s c.args.self.now c.args.at x c.self.view_is c.requires c.index.ensures in
    let own = c.tree-tree.ensures ∙ ap (λ (j : Journaled). j.tree) c.frame.ensures in
    let p = err_from_is_err_and c.from_residual-in_err-hear.result c.from_residual-in_err-hear.ensures.1 in
    rw (p.1)
    (breaks (λ ls f k. (
      refl,
      inr (inr (
        c.in_ok-line.line,
        asked_at s c.args.self.now c.args.at c.tree-tree.result x f c.in_ok-line.line c.self.view_is h k own c.in_ok-line.ensures.line c.ask.new.forest.history
            (ap (λ (p : Past). p.history) c.in_ok-line.ensures.after),
      )),
    )))

pub invariant_of-self-2 : goal.invariant_of-self-2
invariant_of-self-2 g c =
    let s = state_of c.self.inside.seats.items c.self.inside.browser c.self.inside.readers.items c.self.inside.forest.history in
    kept_asked s c.self.inside.places c.self.inside.forest.trees c.ask.new.forest.trees c.tree-tree.result c.ask.new.forest.history c.self.invariant
    (ap (λ (p : Past). p.trees) c.in_ok-line.ensures.after) (ap (λ (p : Past). p.history) c.in_ok-line.ensures.after)

pub returns-clause-asked : goal.returns-clause-asked
returns-clause-asked g c =
    let s = state_of c.self.inside.seats.items c.self.inside.browser c.self.inside.readers.items c.self.inside.forest.history in
    let x = c.index.result.now in
    let h = read_at s c.args.self.now c.args.at x c.self.view_is c.requires c.index.ensures in
    let own = c.tree-tree.ensures ∙ ap (λ (j : Journaled). j.tree) c.frame.ensures in
    follows (told c.in_ok-line.line c.in_ok-hear.ensures)
    (λ is js t f k. (
      c.in_ok-line.line,
      (
        asked_at s c.args.self.now c.args.at c.tree-tree.result x f c.in_ok-line.line c.self.view_is h k own c.in_ok-line.ensures.line c.ask.new.forest.history
            (ap (λ (p : Past). p.history) c.in_ok-line.ensures.after),
        t,
      ),
    ))

pub returns-clause-delivery : goal.returns-clause-delivery
returns-clause-delivery g c f k =
    let s = state_of c.self.inside.seats.items c.self.inside.browser c.self.inside.readers.items c.self.inside.forest.history in
    let x = c.index.result.now in
    let h = read_at s c.args.self.now c.args.at x c.self.view_is c.requires c.index.ensures in
    let own = c.tree-tree.ensures ∙ ap (λ (j : Journaled). j.tree) c.frame.ensures in
    delivery_at s c.args.self.now c.args.at c.tree-tree.result x f c.in_ok-line.line c.self.view_is h k own c.in_ok-line.ensures.line c.delivery_in-delivery.result c.delivery_in-delivery.ensures
