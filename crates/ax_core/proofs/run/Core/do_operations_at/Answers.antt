use Rattle.ax_core.proofs.Hearing.{follows}
use Rattle.ax_core.proofs.Turning.{turns_same}
use Rattle.ax_core.proofs.run.Core.do_operations_at.Goals as goal

pub returns : goal.returns
returns g c = follows c.tell_times.ensures (λ is js q f h. let e = c.operations_at-item.ensures f h in turns_same _ _ _ _ _ _ _ e.0 e.1 q)
