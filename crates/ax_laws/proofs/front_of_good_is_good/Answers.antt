use Rattle.ax_tree.proofs.GoodFronts.{good_front}
use Rattle.ax_laws.proofs.front_of_good_is_good.Goals as goal

pub returns : goal.returns
returns c = λ t front back g. good_front t front back g
