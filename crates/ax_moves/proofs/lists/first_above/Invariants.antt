use Rattle.std.proofs.Common.{◌≡◌, drop, find}
use Rattle.std.specs.Prelude.{nat_lt}
use Rattle.ax_moves.specs.Bounds.{moved}
use Rattle.ax_moves.proofs.lists.first_above.Given as goal

abbrev pub invariant-loop-bound : goal.invariant-loop-bound
invariant-loop-bound l = find (nat_lt l.offset) (moved l.start l.bounds) ≡ find (nat_lt l.offset) (moved l.start (drop l.bound-index l.bounds))
