use Rattle.std.proofs.Common.{◌≡◌, ◌++◌, List, [], take, Some}
use Rattle.ax_ask.specs.declared.line.Line.{Line}
use Rattle.ax_order_laws.specs.Told.{placed}
use Rattle.ax_run_rules.specs.LineText.{lines_text}
use Rattle.ax_report.specs.Buffers.{Extends}
use Rattle.ax_placed.specs.Placing.{told_of, AreAt}
use Rattle.ax_placed.proofs.text.put_items.Given as goal

abbrev pub invariant-loop-item : goal.invariant-loop-item
invariant-loop-item l = record {
  lines : (ls : List Line) → placed (told_of l.told) [] (take l.item-index l.order) ≡ Some ls
      → AreAt l.told (take l.item-index l.order) l.frame_at.items l.entry_at l.reader_at.items × (l.out.items ≡ l.fn.out.items ++ lines_text ls);
  begins : Extends l.fn.out.items l.out.items;
}
