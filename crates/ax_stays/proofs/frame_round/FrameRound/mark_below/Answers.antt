use Rattle.std.proofs.Common.{ap, refl, subst, ◌∙◌}
use Rattle.ax_tree.specs.declared.packet.JEntry.TheVariants.{MarkedBelow}
use Rattle.ax_frame.specs.Frames.{Journaled, KeepsFitting}
use Rattle.ax_stays.specs.FrameCalls.{grown, mark_entries, IsMarkAnswer}
use Rattle.ax_stays.proofs.Cuts.{mark_cuts}
use Rattle.ax_stays.proofs.Journals.{mark_grown}
use Rattle.ax_stays.proofs.frame_round.FrameRound.mark_below.Goals as goal

pub invariant_of-self : goal.invariant_of-self
invariant_of-self c = mark_cuts (MarkedBelow c.args.id) (λ t f. refl) c.mark_below.result c.self.inside.frame c.mark_below.new.self c.self.inside.made c.mark_below.ensures.after c.self.invariant

pub returns-clause-grown : goal.returns-clause-grown
returns-clause-grown c = c.mark_below.ensures.after ∙ (mark_grown (MarkedBelow c.args.id) c.mark_below.result c.self.inside.frame ∙ ap (grown (mark_entries (MarkedBelow c.args.id) c.mark_below.result)) c.self.view_is)

pub returns-clause-answer : goal.returns-clause-answer
returns-clause-answer c =
    subst (λ (j : Journaled). IsMarkAnswer j.tree c.args.id c.mark_below.result j.journal) c.self.view_is (record { there = c.mark_below.ensures.there; refused = c.mark_below.ensures.refused })

pub returns-clause-fits : goal.returns-clause-fits
returns-clause-fits c = subst (λ (j : Journaled). KeepsFitting j c.mark_below.new.self) c.self.view_is c.mark_below.ensures.fits
