use Rattle.std.proofs.Common.{◌≡◌, take}
use Rattle.ax_forest.specs.Past.{forest_of}
use Rattle.ax_top.proofs.Counting.{nodes_at}
use Rattle.ax_top.proofs.making.nodes_of.Given as goal

abbrev pub invariant-loop-tree : goal.invariant-loop-tree
invariant-loop-tree l = l.nodes ≡ nodes_at (forest_of l.forest) (take l.tree-index l.tree-items)
