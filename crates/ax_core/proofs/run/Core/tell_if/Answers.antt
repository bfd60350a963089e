use Rattle.ax_core.proofs.Hearing.{begins, follows}
use Rattle.ax_core.proofs.Turning.{tell_some, tell_none}
use Rattle.ax_core.proofs.run.Core.tell_if.Goals as goal

pub returns-in-Some : goal.returns-in-Some
returns-in-Some g c = follows c.tell.ensures (λ is js q. tell_some _ _ _ _ _ c.in-Some.is q)

pub returns-in-None : goal.returns-in-None
returns-in-None g c = begins (λ ls. tell_none _ _ c.in-None.is)
