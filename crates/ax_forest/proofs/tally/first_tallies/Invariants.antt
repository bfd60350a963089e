use Rattle.std.proofs.Common.{take}
use Rattle.ax_forest.specs.ById.{IsFilled}
use Rattle.ax_forest.specs.Tallied.{first_tally}
use Rattle.ax_forest.proofs.tally.first_tallies.Given as goal

abbrev pub invariant-loop-tree : goal.invariant-loop-tree
invariant-loop-tree l = IsFilled first_tally (take l.tree-index l.trees) l.tallies
