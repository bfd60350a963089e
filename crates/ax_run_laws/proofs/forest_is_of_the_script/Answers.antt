use Rattle.ax_run_laws.proofs.Final.{forest_of_script}
use Rattle.ax_run_laws.proofs.forest_is_of_the_script.Goals as goal

pub returns : goal.returns
returns c = λ s o r e once h k. forest_of_script s o r e once h k
