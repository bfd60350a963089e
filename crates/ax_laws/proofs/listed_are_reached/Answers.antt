use Rattle.ax_tree.specs.SerialRule.{goes_on}
use Rattle.ax_laws.proofs.InOrder.{from_root_in_order}
use Rattle.ax_laws.proofs.Reachings.{reached_listed, listed_is_reached}
use Rattle.ax_laws.proofs.listed_are_reached.Goals as goal

pub returns : goal.returns
returns c = λ s k m a t h. (
  from_root_in_order (goes_on k m) s.trees a t.distinct h,
  λ z. (λ l. reached_listed s.trees (goes_on k m) a z t.distinct h l, λ p. listed_is_reached s.trees (goes_on k m) a t.distinct h p),
)
