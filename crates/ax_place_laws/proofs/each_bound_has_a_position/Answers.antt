use Rattle.ax_place_laws.proofs.Forms.{move_there}
use Rattle.ax_place_laws.proofs.each_bound_has_a_position.Goals as goal

pub returns : goal.returns
returns c = move_there
