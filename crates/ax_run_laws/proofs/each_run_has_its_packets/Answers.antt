use Rattle.ax_run_laws.proofs.Held.{its_packets}
use Rattle.ax_run_laws.proofs.each_run_has_its_packets.Goals as goal

pub returns : goal.returns
returns c = λ s o r t f h e. its_packets s o r t f h e
