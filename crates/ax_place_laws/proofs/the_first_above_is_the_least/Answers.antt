use Rattle.ax_place_laws.proofs.Bounds.{first_is_least}
use Rattle.ax_place_laws.proofs.the_first_above_is_the_least.Goals as goal

pub returns : goal.returns
returns c = first_is_least
