use Rattle.std.proofs.Common.{sym, subst}
use Rattle.ax_forest.specs.Past.{Past}
use Rattle.ax_stays.specs.Received.{KeepsReceipts}
use Rattle.ax_stays.proofs.Histories.{keeps_none}
use Rattle.ax_stays.proofs.forest_round.ForestRound.new.Goals as goal

pub invariant_of-result : goal.invariant_of-result
invariant_of-result c = subst (λ (p : Past). KeepsReceipts p.history 0) (sym c.in_ok-forest.ensures) keeps_none
