use Rattle.ax_finale_laws.proofs.CatchingUp.{action_catches_up}
use Rattle.ax_finale_laws.proofs.each_action_catches_up.Goals as goal

pub returns : goal.returns
returns c = λ r e q az t f h k m x. action_catches_up r e q az t f h k m x
