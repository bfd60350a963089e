use Rattle.std.proofs.Common.{◌≡◌, take}
use Rattle.ax_tree.specs.MarkRule.{add_marks}
use Rattle.ax_source.specs.Marking.{less}
use Rattle.ax_source.proofs.marking.mark_all.Given as goal

abbrev pub invariant-loop-id : goal.invariant-loop-id
invariant-loop-id l = record {
  marks : l.marks ≡ add_marks l.fn.marks (take l.id-index l.ids);
  back : less l.added l.marks ≡ l.fn.marks;
}
