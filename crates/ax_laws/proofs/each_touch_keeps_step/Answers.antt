use Rattle.ax_laws.proofs.FrameSteps.{mark_in_step, mark_below_in_step}
use Rattle.ax_laws.proofs.each_touch_keeps_step.Goals as goal

pub returns : goal.returns
returns c = λ z r s m flag fresh st h. (mark_in_step z r s m flag fresh st h, mark_below_in_step z r s m flag fresh st)
