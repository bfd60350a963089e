use Rattle.std.proofs.Common.{◌≡◌, drop}
use Rattle.ax_core.proofs.queue.Queue.skip.Given as goal

abbrev pub invariant-loop-at : goal.invariant-loop-at
invariant-loop-at g l = l.self ≡ drop l._at l.initial.self
