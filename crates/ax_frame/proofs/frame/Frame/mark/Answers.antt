use Rattle.std.proofs.Common.{sym, subst, ◌∙◌}
use Rattle.ax_laws.proofs.FrameSteps.{kept_frame}
use Rattle.ax_source.proofs.Linked.{ok_at}
use Rattle.ax_source.specs.Source.{Source}
use Rattle.ax_tree.specs.declared.packet.JEntry.TheVariants.{Marked}
use Rattle.ax_tree.specs.Journals.{after_entry, frame_of}
use Rattle.ax_frame.specs.Frames.{HoldsFrame, all_kept}
use Rattle.ax_frame.proofs.Holding.{at_entry, mark_unknown, mark_holds, refused_mark}
use Rattle.ax_frame.proofs.Fitting.{fits_more}
use Rattle.ax_frame.proofs.frame.Frame.mark.Goals as goal

pub invariant_of-self-in-Ok : goal.invariant_of-self-in-Ok
invariant_of-self-in-Ok c =
    let journal = ok_at c.push.result _ (sym c.is_err.ensures.value ∙ c.if-is_err.false) c.push.ensures.ok in
    at_entry c.self.inside.tree c.self.inside.journal c.push.new.self (Marked c.args.id) c.mark.new.self c.self.inside.serializer.client (all_kept c.self.inside.serializer.kept c.self.inside.back) c.self.inside.slip c.self.inside.passes c.self.inside.token c.self.inside.short journal
    (subst (λ (v : Source). HoldsFrame (after_entry c.self.inside.tree (Marked c.args.id) (frame_of c.self.inside.tree c.self.inside.journal)) v c.self.inside.serializer.client (all_kept c.self.inside.serializer.kept c.self.inside.back) c.self.inside.slip c.self.inside.passes c.self.inside.token c.self.inside.short) (sym c.in-Ok.ensures.ok)
    (mark_holds c.self.inside.tree (frame_of c.self.inside.tree c.self.inside.journal) (kept_frame c.self.inside.tree c.self.inside.journal) c.self.inside.source c.self.inside.serializer.client (all_kept c.self.inside.serializer.kept c.self.inside.back) c.self.inside.slip c.self.inside.passes c.self.inside.token c.self.inside.short c.self.invariant c.args.id c.in-Ok.ensures.there))

pub invariant_of-self-else-lacks_memory : goal.invariant_of-self-else-lacks_memory
invariant_of-self-else-lacks_memory c =
    let journal = ok_at c.push.result _ (sym c.is_err.ensures.value ∙ c.if-is_err.false) c.push.ensures.ok in
    let why = mark_unknown c.self.inside.source.tree.trees c.args.id c.in-Err.refusal c.in-Err.ensures.refused (sym c.if-lacks_memory.ensures) in
    at_entry c.self.inside.tree c.self.inside.journal c.push.new.self (Marked c.args.id) c.mark.new.self c.self.inside.serializer.client (all_kept c.self.inside.serializer.kept c.self.inside.back) c.self.inside.slip c.self.inside.passes c.self.inside.token c.self.inside.short journal
    (subst (λ (v : Source). HoldsFrame (after_entry c.self.inside.tree (Marked c.args.id) (frame_of c.self.inside.tree c.self.inside.journal)) v c.self.inside.serializer.client (all_kept c.self.inside.serializer.kept c.self.inside.back) c.self.inside.slip c.self.inside.passes c.self.inside.token c.self.inside.short) (sym c.in-Err.ensures.unchanged)
    (refused_mark c.self.inside.tree (frame_of c.self.inside.tree c.self.inside.journal) (kept_frame c.self.inside.tree c.self.inside.journal) c.self.inside.source c.self.inside.serializer.client (all_kept c.self.inside.serializer.kept c.self.inside.back) c.self.inside.slip c.self.inside.passes c.self.inside.token c.self.inside.short c.self.invariant c.args.id why))

pub returns-in-Ok-clause-fits : goal.returns-in-Ok-clause-fits
returns-in-Ok-clause-fits c =
    let journal = ok_at c.push.result _ (sym c.is_err.ensures.value ∙ c.if-is_err.false) c.push.ensures.ok in
    fits_more (Marked c.args.id) c.args.self.now c.self.inside.tree c.self.inside.journal c.push.new.self c.self.view_is journal (λ p. absurd (cc))

pub returns-else-lacks_memory-clause-fits : goal.returns-else-lacks_memory-clause-fits
returns-else-lacks_memory-clause-fits c =
    let journal = ok_at c.push.result _ (sym c.is_err.ensures.value ∙ c.if-is_err.false) c.push.ensures.ok in
    fits_more (Marked c.args.id) c.args.self.now c.self.inside.tree c.self.inside.journal c.push.new.self c.self.view_is journal (λ p. absurd (cc))
