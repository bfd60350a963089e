use Rattle.std.proofs.Common.{◌≡◌, [], drop}
use Rattle.ax_script.specs.Trees.{has_tree, knows}
use Rattle.ax_script.proofs.Steps.{trees_after}
use Rattle.ax_script.proofs.trees.trees_of.Given as goal

abbrev pub invariant-loop-frame : goal.invariant-loop-frame
invariant-loop-frame l = trees_after (knows l.trees) (drop l.frame-index l.frames) ≡ trees_after (has_tree []) l.frames
