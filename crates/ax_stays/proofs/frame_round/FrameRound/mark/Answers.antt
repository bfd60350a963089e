use Rattle.std.proofs.Common.{ap, refl, subst, ◌∙◌}
use Rattle.ax_tree.specs.declared.packet.JEntry.TheVariants.{Marked}
use Rattle.ax_frame.specs.Frames.{Journaled, KeepsFitting}
use Rattle.ax_stays.specs.FrameCalls.{grown, mark_entries, IsMarkAnswer}
use Rattle.ax_stays.proofs.Cuts.{mark_cuts}
use Rattle.ax_stays.proofs.Journals.{mark_grown}
use Rattle.ax_stays.proofs.frame_round.FrameRound.mark.Goals as goal

pub invariant_of-self : goal.invariant_of-self
invariant_of-self c = mark_cuts (Marked c.args.id) (λ t f. refl) c.mark.result c.self.inside.frame c.mark.new.self c.self.inside.made c.mark.ensures.after c.self.invariant

pub returns-clause-grown : goal.returns-clause-grown
returns-clause-grown c = c.mark.ensures.after ∙ (mark_grown (Marked c.args.id) c.mark.result c.self.inside.frame ∙ ap (grown (mark_entries (Marked c.args.id) c.mark.result)) c.self.view_is)

pub returns-clause-answer : goal.returns-clause-answer
returns-clause-answer c =
    subst (λ (j : Journaled). IsMarkAnswer j.tree c.args.id c.mark.result j.journal) c.self.view_is (record { there = c.mark.ensures.there; refused = c.mark.ensures.refused })

pub returns-clause-fits : goal.returns-clause-fits
returns-clause-fits c = subst (λ (j : Journaled). KeepsFitting j c.mark.new.self) c.self.view_is c.mark.ensures.fits
