use Rattle.ax_finale_laws.proofs.ToCome.{forest_of_lists}
use Rattle.ax_finale_laws.proofs.forest_is_of_the_lists.Goals as goal

pub returns : goal.returns
returns c = λ r e h once k. forest_of_lists r e h once k
