use Rattle.ax_laws.proofs.Updated.{accepted_update}
use Rattle.ax_laws.proofs.each_update_is_accepted.Goals as goal

pub returns : goal.returns
returns c = λ r s m d tr ts lr ls h. accepted_update r s m d tr ts lr ls h
