use Rattle.std.proofs.Common.{◌≡◌, ◌≤◌, ◌+◌, ◌++◌, length}
use Rattle.std.specs.List.{concat}
use Rattle.unicode_segmentation.specs.Word.{word_bounds}
use Rattle.unicode_segmentation.specs.Iter.{word_bounds_left}
use Rattle.ax_base.specs.TextBounds.{starts}
use Rattle.ax_base.proofs.text.word_starts_of.Given as goal

abbrev pub invariant-loop-piece : goal.invariant-loop-piece
invariant-loop-piece l = record {
  done : l.offsets ++ starts l.start (word_bounds_left l.piece-iterator) ≡ starts 0 (word_bounds l.text);
  room : l.start + length (concat (word_bounds_left l.piece-iterator)) ≤ length l.text;
}
