use Rattle.ax_place_laws.proofs.Bounds.{bounds_inside}
use Rattle.ax_place_laws.proofs.each_bound_is_in_the_document.Goals as goal

pub returns : goal.returns
returns c = bounds_inside
