use Rattle.std.proofs.Common.{◌≡◌, ◌++◌, take, drop}
use Rattle.ax_trees.specs.Spots.{removed}
use Rattle.ax_source.proofs.children.leave.Given as goal

abbrev pub invariant-loop-i : goal.invariant-loop-i
invariant-loop-i l = record {
  same : l.ids ≡ l.fn.ids;
  front : take l.i l.fn.ids ++ removed l.fn.id (drop l.i l.fn.ids) ≡ removed l.fn.id l.fn.ids;
}
