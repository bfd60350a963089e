use Rattle.std.proofs.Common.{◌≡◌, map, drop}
use Rattle.ax_core.proofs.resuming.readers_on.Given as goal

abbrev pub invariant-loop-queries : goal.invariant-loop-queries
invariant-loop-queries l = l.readers.items ≡ map (λ p. drop p.1.now p.0) l.yielded
