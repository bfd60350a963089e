use Rattle.std.proofs.Common.{◌≡◌, ◌++◌, ap, ap₂, ◌∙◌}
use Rattle.unicode_segmentation.specs.Word.{word_bounds}
use Rattle.unicode_segmentation.specs.Iter.{word_bounds_left}
use Rattle.ax_base.specs.TextBounds.{starts}
use Rattle.ax_base.proofs.TextLemmas.{room-segments}
use Rattle.ax_base.proofs.text.word_starts_of.Goals as goal

pub loop-piece-init : goal.loop-piece-init
loop-piece-init c =
    let left : word_bounds_left c.into_iter-piece-iterator.result ≡ word_bounds c.args.text.now = ap word_bounds_left c.into_iter-piece-iterator.ensures.into_iter_gives ∙ c.split_word_bounds-piece-items.ensures.left in
    record {
      done = ap₂ (λ xs pieces. xs ++ starts 0 pieces) c.new-offsets.ensures left;
      room = room-segments _ _ _ c.utf8.text left;
    }
