use Rattle.ax_rules.proofs.Building.{verdicts_agree, applied_accepted}
use Rattle.ax_rules.proofs.none_in_order_is_refused.Goals as goal

pub returns : goal.returns
returns c = λ h p good. record { verdict = verdicts_agree h p good; accepted = applied_accepted h p good }
