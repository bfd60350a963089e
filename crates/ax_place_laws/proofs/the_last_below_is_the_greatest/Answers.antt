use Rattle.ax_place_laws.proofs.Bounds.{last_is_greatest}
use Rattle.ax_place_laws.proofs.the_last_below_is_the_greatest.Goals as goal

pub returns : goal.returns
returns c = last_is_greatest
