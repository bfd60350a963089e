use Rattle.ax_place_laws.proofs.Forms.{form_of_position}
use Rattle.ax_place_laws.proofs.each_position_has_a_leaf_form.Goals as goal

pub returns : goal.returns
returns c = form_of_position
