use Rattle.ax_place_laws.proofs.Leaves.{leaf_there}
use Rattle.ax_place_laws.proofs.each_place_has_a_leaf.Goals as goal

pub returns : goal.returns
returns c = leaf_there
