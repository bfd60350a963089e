use Rattle.std.proofs.Common.{◌≤◌, ◌+◌, length}
use Rattle.ax_mirror.specs.Steps.{Tracked, Makes}
use Rattle.ax_mirror.specs.Accounts.{Accounts, list_names, lists_id}
use Rattle.ax_mirror.proofs.Runs.{RanTo}
use Rattle.ax_mirror.proofs.stepping.take_nodes.Given as goal

abbrev pub invariant-loop-node : goal.invariant-loop-node
invariant-loop-node g l = record {
  came : RanTo l.fn.draft l.draft l.nodes l.node-index;
  made : Makes l.fn.draft l.draft;
  tracked : Tracked l.fn.draft l.draft;
  accounts : Accounts (list_names l.nodes) (lists_id l.nodes) l.fn.draft l.draft;
  cost : l.steps + length l.fn.draft.touched ≤ l.fn.steps + length l.draft.touched;
}
