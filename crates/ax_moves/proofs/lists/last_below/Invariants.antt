use Rattle.std.proofs.Common.{◌≡◌, take, filter}
use Rattle.std.specs.Prelude.{nat_lt}
use Rattle.ax_rules.specs.Sequences.{last_of}
use Rattle.ax_moves.specs.Bounds.{moved}
use Rattle.ax_moves.proofs.lists.last_below.Given as goal

abbrev pub invariant-loop-bound : goal.invariant-loop-bound
invariant-loop-bound l = l.found ≡ last_of (filter (λ b. nat_lt b l.offset) (moved l.start (take l.bound-index l.bounds)))
