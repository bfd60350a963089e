use Rattle.std.proofs.Common.{refl}
use Rattle.ax_laws.proofs.FrameSteps.{delivery_in_step}
use Rattle.ax_laws.proofs.each_delivery_keeps_step.Goals as goal

pub returns : goal.returns
returns c = λ r s m flag fresh st. delivery_in_step s.about.tree r s m flag fresh st refl
