use Rattle.std.proofs.Common.{◌≡◌, true, [], ◌∷◌, ◌++◌, ap, ap₂, ◌∙◌}
use Rattle.unicode_segmentation.specs.Grapheme.{graphemes}
use Rattle.unicode_segmentation.specs.Iter.{graphemes_left}
use Rattle.ax_base.specs.TextBounds.{ends}
use Rattle.ax_base.proofs.TextLemmas.{room-segments}
use Rattle.ax_base.proofs.text.grapheme_bounds_of.Goals as goal

pub loop-piece-init : goal.loop-piece-init
loop-piece-init c =
    let left : graphemes_left c.into_iter-piece-iterator.result ≡ graphemes true c.args.text.now = ap graphemes_left c.into_iter-piece-iterator.ensures.into_iter_gives ∙ c.graphemes-piece-items.ensures.left in
    let first : c.push.new.self ≡ 0 ∷ [] = c.in_ok-push.ensures.ok ∙ ap (λ xs. xs ++ 0 ∷ []) c.new-bounds.ensures in
    record {
      done = ap₂ (λ xs pieces. xs ++ ends 0 pieces) first left;
      room = room-segments _ _ _ c.utf8.text left;
    }
