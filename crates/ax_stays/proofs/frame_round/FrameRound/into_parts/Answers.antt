use Rattle.std.proofs.Common.{ap, ◌∙◌}
use Rattle.ax_frame.specs.Frames.{Journaled}
use Rattle.ax_taken.specs.Taking.{cuts_of}
use Rattle.ax_stays.proofs.frame_round.FrameRound.into_parts.Goals as goal

pub returns-clause-made : goal.returns-clause-made
returns-clause-made c = c.self.invariant ∙ ap (λ (j : Journaled). cuts_of j.tree j.journal) c.self.view_is
