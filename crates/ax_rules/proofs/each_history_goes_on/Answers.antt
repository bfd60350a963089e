use Rattle.ax_rules.proofs.Going.{gone_on, token_on, packets_on, changes_on}
use Rattle.ax_rules.proofs.Building.{passes_rise}
use Rattle.ax_rules.proofs.each_history_goes_on.Goals as goal

pub returns : goal.returns
returns c = λ front back t. record {
  gone = gone_on front back t;
  token = token_on front back t;
  packets = packets_on front back t;
  changes = changes_on front back t;
  pass = passes_rise front back t;
}
