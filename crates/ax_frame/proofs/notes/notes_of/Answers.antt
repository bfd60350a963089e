use Rattle.std.proofs.Common.{List, ◌∷◌, ◌++◌, [], sym, ap₂, ◌∙◌}
use Rattle.ax_ask.specs.declared.line.UpdateNote.{UpdateNote}
use Rattle.ax_frame.proofs.NoteLists.{notes_are}
use Rattle.ax_frame.proofs.notes.notes_of.Goals as goal

pub returns-in_ok-push-in-Some : goal.returns-in_ok-push-in-Some
returns-in_ok-push-in-Some c = λ about.
    c.in_ok-push-in-Some.ensures.ok
    ∙ ap₂ (λ (ns : List UpdateNote) (n : UpdateNote). ns ++ n ∷ []) c.in_ok-notes-in-Some.ensures c.in_ok-note_of-in-Some.ensures
    ∙ sym (notes_are c.args.rides about c.args.updates.now c.in-Some.earlier.now c.in-Some.last.now c.in-Some.ensures.cases.0)
