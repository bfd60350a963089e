use Rattle.std.proofs.Common.{true}
use Rattle.ax_core.specs.Hearing.{Hears}
use Rattle.ax_core.proofs.Turning.{Catching}
use Rattle.ax_core.proofs.run.Core.catch_up.Given as goal

abbrev pub invariant-loop-at : goal.invariant-loop-at
invariant-loop-at g l = Hears g.A.Listener.heard (λ _. Catching l.at) true l.initial.self l.self l.initial.listener l.listener
