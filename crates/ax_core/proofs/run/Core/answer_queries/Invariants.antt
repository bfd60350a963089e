use Rattle.std.proofs.Common.{true}
use Rattle.ax_core.specs.Finishing.{Turns}
use Rattle.ax_core.specs.Hearing.{Hears}
use Rattle.ax_run_rules.specs.Finale.{queries_left}
use Rattle.ax_core.proofs.Turning.{Asked}
use Rattle.ax_core.proofs.run.Core.answer_queries.Given as goal

abbrev pub invariant-loop-at : goal.invariant-loop-at
invariant-loop-at g l = Hears g.A.Listener.heard (λ _. Asked (Turns (queries_left l.initial.self)) l.at) true l.initial.self l.self l.initial.listener l.listener
