use Rattle.ax_laws.proofs.GoodPackets.{packets_fit}
use Rattle.ax_laws.proofs.packets_of_journal_are_good.Goals as goal

pub returns : goal.returns
returns c = λ t journal. ((packets_fit t journal).good, packets_fit t journal)
