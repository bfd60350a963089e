use Rattle.ax_run_laws.proofs.CatchUp.{caught_up}
use Rattle.ax_run_laws.proofs.each_tree_catches_up.Goals as goal

pub returns : goal.returns
returns c = λ s o r e t f h k q gone n. caught_up s o r e t f h k q gone n
