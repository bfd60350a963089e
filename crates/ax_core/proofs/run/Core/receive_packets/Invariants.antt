use Rattle.std.proofs.Common.{true}
use Rattle.ax_core.specs.Finishing.{Turns, receive_turn, waits_of}
use Rattle.ax_core.specs.Hearing.{Hears}
use Rattle.ax_run_rules.specs.Finale.{packets_left}
use Rattle.ax_core.proofs.Turning.{Goes}
use Rattle.ax_core.proofs.run.Core.receive_packets.Given as goal

abbrev pub invariant-loop-at : goal.invariant-loop-at
invariant-loop-at g l = Hears g.A.Listener.heard (λ _. Goes receive_turn waits_of (Turns (packets_left l.initial.self)) l.at) true l.initial.self l.self l.initial.listener l.listener
