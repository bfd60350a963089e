use Rattle.std.proofs.Common.{◌≡◌, ap, sym, ◌∙◌, Some}
use Rattle.ax_top.specs.Endings.{run_text}
use Rattle.ax_top.proofs.Fronts.{replayed, refuses, writes_front}
use Rattle.ax_top.specs.declared.top.Status.TheVariants.{WriteFault}
use Rattle.ax_top.proofs.top.replay.Goals as goal

pub returns-then-told-clause-done : goal.returns-then-told-clause-done
returns-then-told-clause-done g c = λ is.
    let whole = λ (w : c.finish.result ≡ WriteFault). let bad : ⊥ = cc in bad in
    replayed (run_text c.args.ending) _ _ _ _ c.in-Ok.bytes.items c.deref.result.now c.in-Ok.ensures.bytes c.in-Ok.ensures.rest
    (c.in-Ok-answer.ensures.text ∙ ap Some (sym c.deref.ensures.value)) (sym c.if-told.true ∙ c.in-Ok-answer.ensures.kind) (c.finish.ensures.whole whole).1

pub returns-then-told-clause-write : goal.returns-then-told-clause-write
returns-then-told-clause-write g c = λ is. (
  c.finish.ensures.fault is,
  writes_front (run_text c.args.ending) _ _ _ c.in-Ok.bytes.items c.deref.result.now c.in-Ok.ensures.bytes
      (c.in-Ok-answer.ensures.text ∙ ap Some (sym c.deref.ensures.value)) (c.finish.ensures.front is),
)

pub returns-in-Ok-answer-clause-refused : goal.returns-in-Ok-answer-clause-refused
returns-in-Ok-answer-clause-refused g c = λ is.
    let whole = λ (w : c.finish-else-told.result ≡ WriteFault). let bad : ⊥ = cc in bad in
    refuses (run_text c.args.ending) _ _ _ c.in-Ok.bytes.items c.deref-else-told.result.now c.in-Ok.ensures.bytes
    (c.in-Ok-answer.ensures.text ∙ ap Some (sym c.deref-else-told.ensures.value)) (sym c.if-told.false ∙ c.in-Ok-answer.ensures.kind) (c.finish-else-told.ensures.whole whole).1

pub returns-in-Ok-answer-clause-write : goal.returns-in-Ok-answer-clause-write
returns-in-Ok-answer-clause-write g c = λ is. (
  c.finish-else-told.ensures.fault is,
  writes_front (run_text c.args.ending) _ _ _ c.in-Ok.bytes.items c.deref-else-told.result.now c.in-Ok.ensures.bytes
      (c.in-Ok-answer.ensures.text ∙ ap Some (sym c.deref-else-told.ensures.value)) (c.finish-else-told.ensures.front is),
)
