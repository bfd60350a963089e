use Rattle.std.proofs.Common.{◌≡◌, take}
use Rattle.ax_core.specs.Places.{AreAt}
use Rattle.ax_core.proofs.places.table_of.Given as goal

abbrev pub invariant-loop-tree : goal.invariant-loop-tree
invariant-loop-tree l = record {
  place : l.place ≡ l.tree-index;
  table : AreAt (take l.tree-index l.trees) l.table;
}
