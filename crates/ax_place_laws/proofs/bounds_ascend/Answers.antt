use Rattle.ax_place_laws.proofs.Bounds.{bounds_climb}
use Rattle.ax_place_laws.proofs.bounds_ascend.Goals as goal

pub returns : goal.returns
returns c = bounds_climb
