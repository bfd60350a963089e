use Rattle.std.proofs.Common.{◌≡◌, ◌++◌, map}
use Rattle.ax_base.proofs.seq.Seq.push_reversed.Given as goal

abbrev pub invariant-loop-x : goal.invariant-loop-x
invariant-loop-x g l = l.self ≡ l.fn.self ++ map (λ x. x.now) l.yielded
