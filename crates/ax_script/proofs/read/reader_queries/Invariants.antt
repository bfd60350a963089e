use Rattle.std.proofs.Common.{◌≡◌, ◌≤◌, ◌+◌, ◌-◌, ◌^◌, drop, length, min, sum_by}
use Rattle.ax_script.proofs.read.reader_queries.Given as goal

abbrev pub invariant-loop-queries : goal.invariant-loop-queries
invariant-loop-queries l = record {
  rest : min (l.count + sum_by (λ r. length r) (drop l.queries-index l.readers)) (2 ^ 64 - 1) ≡ min (sum_by (λ r. length r) l.readers) (2 ^ 64 - 1);
  fits : l.count ≤ 2 ^ 64 - 1;
}
