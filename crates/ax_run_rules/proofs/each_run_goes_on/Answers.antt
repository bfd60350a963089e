use Rattle.ax_run_rules.proofs.RunsGoOn.{run_on}
use Rattle.ax_run_rules.proofs.each_run_goes_on.Goals as goal

pub returns : goal.returns
returns c = λ front back from at to h k. run_on front back from at to h k
