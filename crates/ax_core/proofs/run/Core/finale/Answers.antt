use Rattle.ax_core.proofs.Finished.{list_finished, list_ruled}
use Rattle.ax_core.proofs.run.Core.finale.Goals as goal

pub returns-clause-done : goal.returns-clause-done
returns-clause-done c = list_finished c.new-lines.ensures c.in_ok-tell_finale.ensures.done

pub returns-clause-ruled : goal.returns-clause-ruled
returns-clause-ruled c = list_ruled c.new-lines.ensures c.in_ok-tell_finale.ensures.done
