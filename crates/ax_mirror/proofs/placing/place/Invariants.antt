use Rattle.std.proofs.Common.{◌≤◌, ◌+◌, length, nat_eq}
use Rattle.std.specs.HashSet as bag
use Rattle.ax_mirror.specs.Steps.{Tracked}
use Rattle.ax_trees.specs.Lists.{contains}
use Rattle.ax_mirror.specs.Accounts.{Accounts, no_id}
use Rattle.ax_mirror.proofs.Placings.{Placed}
use Rattle.ax_mirror.proofs.placing.place.Given as goal

abbrev pub invariant-loop-id : goal.invariant-loop-id
invariant-loop-id g l = record {
  placed : Placed l.fn.draft l.draft l.parent l.level (bag.contains nat_eq l.old) l.id-items l.id-index;
  tracked : Tracked l.fn.draft l.draft;
  accounts : Accounts (contains l.id-items) no_id l.fn.draft l.draft;
  cost : l.steps + length l.fn.draft.touched ≤ l.fn.steps + length l.draft.touched;
}
