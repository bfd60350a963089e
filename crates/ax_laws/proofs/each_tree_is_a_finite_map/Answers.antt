use Rattle.ax_laws.proofs.TreeMaps.{tree_shows}
use Rattle.ax_laws.proofs.each_tree_is_a_finite_map.Goals as goal

pub returns : goal.returns
returns c = λ t w. tree_shows t w
