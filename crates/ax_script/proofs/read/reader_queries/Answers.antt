use Rattle.std.proofs.Common.{◌≡◌, ◌+◌, ◌-◌, ◌^◌, [], drop, length, min, sum_by, arith}
use Rattle.ax_script.proofs.Steps.{all_dropped}
use Rattle.ax_script.proofs.read.reader_queries.Goals as goal

pub returns : goal.returns
returns c =
    let gone : drop c.loop-queries.queries-index c.args.readers.now ≡ [] = all_dropped c.loop-queries.queries-index c.args.readers.now (omega arith) in
    let rest : min (c.loop-queries.count + 0) (2 ^ 64 - 1) ≡ min (sum_by (λ r. length r) c.args.readers.now) (2 ^ 64 - 1) = rw gone at c.loop-queries.invariant.rest in
    omega (arith, c.loop-queries.invariant.fits)
