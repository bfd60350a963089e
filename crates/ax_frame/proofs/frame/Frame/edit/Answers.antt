use Rattle.std.proofs.Common.{List, [], ◌∷◌, ◌++◌, sym, subst, ◌∙◌}
use Rattle.ax_laws.proofs.FrameSteps.{kept_frame}
use Rattle.ax_source.proofs.Linked.{ok_at}
use Rattle.ax_source.specs.Source.{Source}
use Rattle.ax_tree.specs.declared.edit.Edit.{Edit}
use Rattle.ax_tree.specs.declared.packet.JEntry.TheVariants.{Edited}
use Rattle.ax_tree.specs.Journals.{after_edit, frame_of}
use Rattle.ax_frame.specs.Frames.{HoldsFrame, all_kept}
use Rattle.ax_frame.proofs.Holding.{at_entry, edit_holds, refused_edit, other_refusal, dropped_last}
use Rattle.ax_frame.proofs.Fitting.{fits_more}
use Rattle.ax_frame.proofs.frame.Frame.edit.Goals as goal

pub invariant_of-self-in-Ok : goal.invariant_of-self-in-Ok
invariant_of-self-in-Ok c =
    let given = sym c.is_err.ensures.value ∙ c.if-is_err.false in
    let journal = ok_at c.enter_edit.result _ given c.enter_edit.ensures.journal in
    let slip = ok_at c.enter_edit.result _ given c.enter_edit.ensures.slip in
    let f = frame_of c.self.inside.tree c.self.inside.journal in
    at_entry c.self.inside.tree c.self.inside.journal c.enter_edit.new.journal (Edited c.args.e.now) c.edit.new.self c.self.inside.serializer.client (all_kept c.self.inside.serializer.kept c.self.inside.back) c.enter_edit.new.slip c.self.inside.passes c.self.inside.token c.self.inside.short journal
    (subst (λ (es : List Edit). HoldsFrame (after_edit c.args.e.now (frame_of c.self.inside.tree c.self.inside.journal)) c.edit.new.self c.self.inside.serializer.client (all_kept c.self.inside.serializer.kept c.self.inside.back) es c.self.inside.passes c.self.inside.token c.self.inside.short) (sym slip)
    (subst (λ (v : Source). HoldsFrame (after_edit c.args.e.now (frame_of c.self.inside.tree c.self.inside.journal)) v c.self.inside.serializer.client (all_kept c.self.inside.serializer.kept c.self.inside.back) (c.self.inside.slip ++ c.args.e.now ∷ []) c.self.inside.passes c.self.inside.token c.self.inside.short) (sym c.in-Ok.ensures.ok)
    (edit_holds c.self.inside.tree f (kept_frame c.self.inside.tree c.self.inside.journal) c.self.inside.source c.self.inside.serializer.client (all_kept c.self.inside.serializer.kept c.self.inside.back) c.self.inside.slip c.self.inside.passes c.self.inside.token c.self.inside.short c.self.invariant c.args.e.now c.in-Ok.ensures.allowed)))

pub invariant_of-self-else-is_no_memory : goal.invariant_of-self-else-is_no_memory
invariant_of-self-else-is_no_memory c =
    let given = sym c.is_err.ensures.value ∙ c.if-is_err.false in
    let journal = ok_at c.enter_edit.result _ given c.enter_edit.ensures.journal in
    let slip = ok_at c.enter_edit.result _ given c.enter_edit.ensures.slip in
    let back = dropped_last c.self.inside.slip c.enter_edit.new.slip c.drop_last.new.items c.args.e.now slip c.drop_last.ensures in
    let why = other_refusal c.args.e.now c.self.inside.source.tree c.in-Err.refusal c.in-Err.ensures.refused (sym c.if-is_no_memory.ensures) in
    let f = frame_of c.self.inside.tree c.self.inside.journal in
    at_entry c.self.inside.tree c.self.inside.journal c.enter_edit.new.journal (Edited c.args.e.now) c.edit.new.self c.self.inside.serializer.client (all_kept c.self.inside.serializer.kept c.self.inside.back) c.drop_last.new.items c.self.inside.passes c.self.inside.token c.self.inside.short journal
    (subst (λ (es : List Edit). HoldsFrame (after_edit c.args.e.now (frame_of c.self.inside.tree c.self.inside.journal)) c.edit.new.self c.self.inside.serializer.client (all_kept c.self.inside.serializer.kept c.self.inside.back) es c.self.inside.passes c.self.inside.token c.self.inside.short) (sym back)
    (subst (λ (v : Source). HoldsFrame (after_edit c.args.e.now (frame_of c.self.inside.tree c.self.inside.journal)) v c.self.inside.serializer.client (all_kept c.self.inside.serializer.kept c.self.inside.back) c.self.inside.slip c.self.inside.passes c.self.inside.token c.self.inside.short) (sym c.in-Err.ensures.unchanged)
    (refused_edit c.self.inside.tree f (kept_frame c.self.inside.tree c.self.inside.journal) c.self.inside.source c.self.inside.serializer.client (all_kept c.self.inside.serializer.kept c.self.inside.back) c.self.inside.slip c.self.inside.passes c.self.inside.token c.self.inside.short c.self.invariant c.args.e.now c.in-Err.refusal why)))

pub returns-in-Ok-clause-fits : goal.returns-in-Ok-clause-fits
returns-in-Ok-clause-fits c =
    let journal = ok_at c.enter_edit.result _ (sym c.is_err.ensures.value ∙ c.if-is_err.false) c.enter_edit.ensures.journal in
    fits_more (Edited c.args.e.now) c.args.self.now c.self.inside.tree c.self.inside.journal c.enter_edit.new.journal c.self.view_is journal (λ p. absurd (cc))

pub returns-else-is_no_memory-clause-fits : goal.returns-else-is_no_memory-clause-fits
returns-else-is_no_memory-clause-fits c =
    let journal = ok_at c.enter_edit.result _ (sym c.is_err.ensures.value ∙ c.if-is_err.false) c.enter_edit.ensures.journal in
    fits_more (Edited c.args.e.now) c.args.self.now c.self.inside.tree c.self.inside.journal c.enter_edit.new.journal c.self.view_is journal (λ p. absurd (cc))
