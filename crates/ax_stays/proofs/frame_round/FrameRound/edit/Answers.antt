use Rattle.std.proofs.Common.{ap, subst, ◌∙◌}
use Rattle.ax_frame.specs.Frames.{Journaled, KeepsFitting}
use Rattle.ax_stays.specs.FrameCalls.{grown, edit_entries, IsEditAnswer}
use Rattle.ax_stays.proofs.Cuts.{edit_cuts}
use Rattle.ax_stays.proofs.Journals.{edit_grown}
use Rattle.ax_stays.proofs.frame_round.FrameRound.edit.Goals as goal

pub invariant_of-self : goal.invariant_of-self
invariant_of-self c = edit_cuts c.args.e.now c.edit.result c.self.inside.frame c.edit.new.self c.self.inside.made c.edit.ensures.after c.self.invariant

pub returns-clause-grown : goal.returns-clause-grown
returns-clause-grown c = c.edit.ensures.after ∙ (edit_grown c.args.e.now c.edit.result c.self.inside.frame ∙ ap (grown (edit_entries c.args.e.now c.edit.result)) c.self.view_is)

pub returns-clause-answer : goal.returns-clause-answer
returns-clause-answer c =
    subst (λ (j : Journaled). IsEditAnswer j.tree c.args.e.now c.edit.result j.journal) c.self.view_is (record { allowed = c.edit.ensures.allowed; refused = c.edit.ensures.refused })

pub returns-clause-fits : goal.returns-clause-fits
returns-clause-fits c = subst (λ (j : Journaled). KeepsFitting j c.edit.new.self) c.self.view_is c.edit.ensures.fits
