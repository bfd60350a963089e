use Rattle.ax_laws.proofs.AlikeResults.{applied_alike}
use Rattle.ax_laws.proofs.Updated.{applied_by_shape}
use Rattle.ax_laws.proofs.refusals_see_shape_alone.Goals as goal

pub returns : goal.returns
returns c = (λ u r q tr tq s. applied_alike u r q tr tq s, λ u r q e. applied_by_shape u r q e)
