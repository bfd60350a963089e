use Rattle.ax_fair_laws.proofs.Hubs.{is_worked}
use Rattle.ax_fair_laws.proofs.each_hub_of_workers_is_worked.Goals as goal

pub returns : goal.returns
returns c = λ s closed looks of. is_worked s closed looks of
