use Rattle.std.proofs.Common.{◌≡◌, ◌++◌, length, map}
use Rattle.ax_tree.specs.Bundles.{rounds}
use Rattle.ax_tree.specs.Updates.{nodes_part}
use Rattle.ax_frame.specs.Frames.{all_kept}
use Rattle.ax_frame.specs.Passes.{StaysSending}
use Rattle.ax_frame.proofs.passing.send_marks.Given as goal

abbrev pub invariant-loop-d : goal.invariant-loop-d
invariant-loop-d l = record {
  tree : l.source.tree ≡ l.fn.source.tree;
  flag : l.source.changed ≡ l.fn.source.changed;
  stays : StaysSending l.fn.source.tree l.fn.source.marks l.fn.serializer.client (all_kept l.fn.serializer.kept l.fn.back) l.source.marks l.serializer.client (all_kept l.serializer.kept l.back);
  updates : map nodes_part (all_kept l.serializer.kept l.back) ++ rounds (length l.source.marks) l.serializer.client l.source.tree.trees l.source.marks ≡ map nodes_part (all_kept l.fn.serializer.kept l.fn.back) ++ rounds (length l.fn.source.marks) l.fn.serializer.client l.fn.source.tree.trees l.fn.source.marks;
}

abbrev pub decreases-loop-d : goal.decreases-loop-d
decreases-loop-d l = length l.source.marks
