use Rattle.std.proofs.Common.{take}
use Rattle.ax_forest.specs.Shown.{AreEmpty}
use Rattle.ax_forest.proofs.table.empty_mirrors.Given as goal

abbrev pub invariant-loop-tree : goal.invariant-loop-tree
invariant-loop-tree l = AreEmpty (take l.tree-index l.trees) l.mirrors
