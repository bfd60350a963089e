use Rattle.ax_place_laws.proofs.Forms.{form_at}
use Rattle.ax_place_laws.proofs.each_offset_has_a_leaf_form.Goals as goal

pub returns : goal.returns
returns c = form_at
