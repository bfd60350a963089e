use Rattle.std.proofs.Common.{◌≡◌, ◌++◌, take}
use Rattle.std.specs.List.{flat_map, enumerate_from}
use Rattle.ax_tree.specs.Forest.{Forest}
use Rattle.ax_rules.specs.Stitched.{stitched}
use Rattle.ax_run_rules.specs.CombineText.{node_line}
use Rattle.ax_report.specs.Buffers.{Extends}
use Rattle.ax_report.specs.Combining.{IsCombined}
use Rattle.ax_report.proofs.combined.put_rows.Given as goal

abbrev pub invariant-loop-at : goal.invariant-loop-at
invariant-loop-at g l = record {
  grown : Extends l.fn.out.items l.out.items;
  told : (f : Forest) → IsCombined f (g.C.CombinedView.places l.view) (g.C.TreeView.tree l.view) → l.out.items ≡ l.fn.out.items ++ flat_map (node_line (stitched f)) (take l.at (enumerate_from 1 (stitched f)));
}
