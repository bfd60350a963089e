use Rattle.std.proofs.Common.{◌≡◌, ◌+◌, ◌-◌, ◌^◌, [], drop, length, min, sum_by, arith}
use Rattle.ax_script.proofs.Steps.{all_dropped}
use Rattle.ax_script.proofs.read.frame_ops.Goals as goal

pub returns : goal.returns
returns c =
    let gone : drop c.loop-frame.frame-index c.args.frames.now ≡ [] = all_dropped c.loop-frame.frame-index c.args.frames.now (omega arith) in
    let rest : min (c.loop-frame.count + 0) (2 ^ 64 - 1) ≡ min (sum_by (λ f. length f.ops) c.args.frames.now) (2 ^ 64 - 1) = rw gone at c.loop-frame.invariant.rest in
    omega (arith, c.loop-frame.invariant.fits)
