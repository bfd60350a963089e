use Rattle.ax_laws.proofs.FrameSteps.{edit_in_step}
use Rattle.ax_laws.proofs.each_edit_keeps_step.Goals as goal

pub returns : goal.returns
returns c = λ e r s m flag fresh st h. edit_in_step e r s m flag fresh st h
