use Rattle.std.proofs.Common.{◌≡◌}
use Rattle.ax_actions.proofs.ActingLemmas.{Serving}
use Rattle.ax_actions.proofs.acting.serve.Given as goal

abbrev pub invariant-loop : goal.invariant-loop
invariant-loop g l = record {
  table : l.by.table ≡ l.initial.by.table;
  serving : Serving l.initial.by.taken l.initial.acted l.by.taken l.acted;
}
