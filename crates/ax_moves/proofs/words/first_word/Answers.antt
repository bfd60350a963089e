use Rattle.std.proofs.Common.{◌≡◌, ap, ◌∙◌}
use Rattle.unicode_segmentation.specs.Word.{word_bounds}
use Rattle.unicode_segmentation.specs.Iter.{word_bounds_left}
use Rattle.ax_base.specs.TextBounds.{starts}
use Rattle.ax_base.proofs.TextLemmas.{room-segments}
use Rattle.ax_rules.specs.Sequences.{first_of}
use Rattle.ax_moves.proofs.words.first_word.Goals as goal

pub loop-piece-init : goal.loop-piece-init
loop-piece-init c =
    let left : word_bounds_left c.into_iter-piece-iterator.result ≡ word_bounds c.args.text.now = ap word_bounds_left c.into_iter-piece-iterator.ensures.into_iter_gives ∙ c.split_word_bounds-piece-items.ensures.left in
    record {
      rest = ap (λ pieces. first_of (starts 0 pieces)) left;
      room = room-segments _ _ _ c.utf8.text left;
    }
