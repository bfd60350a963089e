-- Worked rows.
use Rattle.std.proofs.Common.{◌≡◌, [], ◌∷◌, codes, refl}
use Rattle.unicode_segmentation.proofs.Computing.{unicode_segmentation}
use Rattle.ax_base.specs.TextBounds.{grapheme_bounds, word_starts}

abe_accent : grapheme_bounds (97 ∷ 98 ∷ 101 ∷ 769 ∷ []) ≡ 0 ∷ 1 ∷ 2 ∷ 4 ∷ []
unfolding unicode_segmentation
abe_accent = refl

one_two : word_starts (codes "one two") ≡ 0 ∷ 4 ∷ []
unfolding unicode_segmentation
one_two = refl

empty_bounds : grapheme_bounds [] ≡ 0 ∷ []
unfolding unicode_segmentation
empty_bounds = refl
