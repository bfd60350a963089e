use Rattle.std.proofs.Common.{true}
use Rattle.ax_core.specs.Hearing.{Hears}
use Rattle.ax_core.proofs.Turning.{Repeats}
use Rattle.ax_core.proofs.run.Core.tell_times.Given as goal

abbrev pub invariant-loop-at : goal.invariant-loop-at
invariant-loop-at g l = Hears g.A.Listener.heard (λ _. Repeats l.times l._at l.item) true l.initial.self l.self l.initial.listener l.listener
