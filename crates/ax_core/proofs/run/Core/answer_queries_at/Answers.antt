use Rattle.ax_core.proofs.Hearing.{follows}
use Rattle.ax_core.proofs.Turning.{turns_same}
use Rattle.ax_core.proofs.run.Core.answer_queries_at.Goals as goal

pub returns : goal.returns
returns g c = follows c.tell_times.ensures (λ is js t q h. let e = c.queries_at-item.ensures q h in turns_same _ _ _ _ _ _ _ e.0 e.1 t)
