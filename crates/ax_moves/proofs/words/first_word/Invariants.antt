use Rattle.std.proofs.Common.{◌≡◌, ◌≤◌, ◌+◌, length}
use Rattle.std.specs.List.{concat}
use Rattle.unicode_segmentation.specs.Word.{word_bounds}
use Rattle.unicode_segmentation.specs.Iter.{word_bounds_left}
use Rattle.ax_base.specs.TextBounds.{starts}
use Rattle.ax_rules.specs.Sequences.{first_of}
use Rattle.ax_moves.proofs.words.first_word.Given as goal

abbrev pub invariant-loop-piece : goal.invariant-loop-piece
invariant-loop-piece l = record {
  rest : first_of (starts l.start (word_bounds_left l.piece-iterator)) ≡ first_of (starts 0 (word_bounds l.text));
  room : l.start + length (concat (word_bounds_left l.piece-iterator)) ≤ length l.text;
}
