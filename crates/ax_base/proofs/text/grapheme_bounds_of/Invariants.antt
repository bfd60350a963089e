use Rattle.std.proofs.Common.{◌≡◌, ◌≤◌, ◌+◌, true, ◌∷◌, ◌++◌, length}
use Rattle.std.specs.List.{concat}
use Rattle.unicode_segmentation.specs.Grapheme.{graphemes}
use Rattle.unicode_segmentation.specs.Iter.{graphemes_left}
use Rattle.ax_base.specs.TextBounds.{ends}
use Rattle.ax_base.proofs.text.grapheme_bounds_of.Given as goal

abbrev pub invariant-loop-piece : goal.invariant-loop-piece
invariant-loop-piece l = record {
  done : l.bounds ++ ends l.end (graphemes_left l.piece-iterator) ≡ 0 ∷ ends 0 (graphemes true l.text);
  room : l.end + length (concat (graphemes_left l.piece-iterator)) ≤ length l.text;
}
