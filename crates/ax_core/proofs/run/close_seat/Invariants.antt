use Rattle.std.proofs.Common.{◌≡◌, ◌++◌}
use Rattle.ax_core.proofs.run.close_seat.Given as goal

abbrev pub invariant-loop-packet : goal.invariant-loop-packet
invariant-loop-packet l = l.waiting.items ≡ l.initial.waiting.items ++ l.yielded
