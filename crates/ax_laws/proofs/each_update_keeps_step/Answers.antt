use Rattle.ax_laws.proofs.Updated.{update_in_step}
use Rattle.ax_laws.proofs.each_update_keeps_step.Goals as goal

pub returns : goal.returns
returns c = λ r s m flag fresh d made st h e. update_in_step r s m flag fresh d made st h e
