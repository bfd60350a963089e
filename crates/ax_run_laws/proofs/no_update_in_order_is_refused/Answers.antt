use Rattle.ax_run_laws.proofs.Held.{next_agrees}
use Rattle.ax_run_laws.proofs.no_update_in_order_is_refused.Goals as goal

pub returns : goal.returns
returns c = λ s o r t f p ps h e w. next_agrees s o r t f p ps h e w
