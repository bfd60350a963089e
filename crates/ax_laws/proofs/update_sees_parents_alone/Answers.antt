use Rattle.ax_laws.proofs.Updated.{update_by_shape}
use Rattle.ax_laws.proofs.update_sees_parents_alone.Goals as goal

pub returns : goal.returns
returns c = λ k l s m d tc tk same. update_by_shape k l s m d tc tk same
