use Rattle.ax_tree.specs.Journals.{new_frame}
use Rattle.ax_laws.proofs.FrameSteps.{kept_frame, frame_source}
use Rattle.ax_laws.proofs.each_journal_keeps_step.Goals as goal

pub returns : goal.returns
returns c = λ t journal. (frame_source t journal (new_frame t), (kept_frame t journal).step)
