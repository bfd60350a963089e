use Rattle.std.proofs.Common.{◌≤◌, length}
use Rattle.ax_client.proofs.Parts.{IsParting}
use Rattle.ax_client.proofs.parting.part.Given as goal

abbrev pub invariant-loop-id : goal.invariant-loop-id
invariant-loop-id l = record {
  within : l.passed ≤ length l.old;
  left : IsParting l.old l.new l.passed l.id-index l.gone l.come;
}
