use Rattle.std.proofs.Common.{◌≡◌, ◌≤◌, ◌+◌, ◌-◌, ◌^◌, drop, length, min, sum_by}
use Rattle.ax_script.proofs.read.frame_ops.Given as goal

abbrev pub invariant-loop-frame : goal.invariant-loop-frame
invariant-loop-frame l = record {
  rest : min (l.count + sum_by (λ f. length f.ops) (drop l.frame-index l.frames)) (2 ^ 64 - 1) ≡ min (sum_by (λ f. length f.ops) l.frames) (2 ^ 64 - 1);
  fits : l.count ≤ 2 ^ 64 - 1;
}
