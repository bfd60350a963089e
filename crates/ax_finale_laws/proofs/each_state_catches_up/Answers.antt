use Rattle.ax_finale_laws.proofs.CatchingUp.{state_catches_up}
use Rattle.ax_finale_laws.proofs.each_state_catches_up.Goals as goal

pub returns : goal.returns
returns c = λ r e t f h k q. state_catches_up r e t f h k q
