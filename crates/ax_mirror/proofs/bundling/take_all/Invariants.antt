use Rattle.std.proofs.Common.{◌≤◌, ◌+◌, length, take}
use Rattle.ax_mirror.specs.Accounts.{all_names}
use Rattle.ax_mirror.proofs.Bundles.{CameTo}
use Rattle.ax_mirror.proofs.Reached.{Grows}
use Rattle.ax_mirror.proofs.bundling.take_all.Given as goal

abbrev pub invariant-loop-at : goal.invariant-loop-at
invariant-loop-at g l = record {
  came : CameTo l.fn.draft l.fn.about l.draft l.about l.updates l.at;
  grown : Grows (all_names (take l.at l.updates)) l.fn.draft l.draft;
  cost : l.steps + length l.fn.draft.touched ≤ l.fn.steps + length l.draft.touched;
}
