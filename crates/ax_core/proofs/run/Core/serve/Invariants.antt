use Rattle.std.proofs.Common.{true}
use Rattle.ax_core.specs.Hearing.{Hears}
use Rattle.ax_core.proofs.Turning.{Serving}
use Rattle.ax_core.proofs.run.Core.serve.Given as goal

abbrev pub invariant-loop-at : goal.invariant-loop-at
invariant-loop-at g l = Hears g.A.Listener.heard (λ _. Serving l._at) true l.initial.self l.self l.initial.listener l.listener
