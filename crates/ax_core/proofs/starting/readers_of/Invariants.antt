use Rattle.std.proofs.Common.{◌≡◌}
use Rattle.ax_core.proofs.starting.readers_of.Given as goal

abbrev pub invariant-loop-queries : goal.invariant-loop-queries
invariant-loop-queries l = l.readers.items ≡ l.yielded
