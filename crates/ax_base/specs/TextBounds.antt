-- Where a text may be parted, in scalars.
use Rattle.std.specs.Prelude.{ℕ, ◌+◌, Bool, true, List, [], ◌∷◌, length, encode_utf8_all, if◌then◌else◌}
use Rattle.std.specs.Char.{is_whitespace}
use Rattle.std.specs.Str.{chars}
use Rattle.unicode_segmentation.specs.Grapheme.{graphemes}
use Rattle.unicode_segmentation.specs.Word.{word_bounds}

-- where each piece ends, where the first begins at `from` and each follows the one before
abbrev pub ends : ℕ → List (List ℕ) → List ℕ
ends from [] = []
ends from (piece ∷ pieces) = (from + length (chars piece)) ∷ ends (from + length (chars piece)) pieces

-- the first scalar is white space
abbrev pub begins_white : List ℕ → Bool
begins_white [] = true
begins_white (c ∷ _) = is_whitespace c

-- where those pieces begin whose first scalar isn't white space
abbrev pub starts : ℕ → List (List ℕ) → List ℕ
starts from [] = []
starts from (piece ∷ pieces) =
    let rest = starts (from + length (chars piece)) pieces in if begins_white (chars piece) then rest else from ∷ rest

-- 0, and the end of each extended grapheme cluster
abbrev pub grapheme_bounds : List ℕ → List ℕ
grapheme_bounds text = 0 ∷ ends 0 (graphemes true (encode_utf8_all text))

-- the starts of the segments between word boundaries that don't begin with white space
abbrev pub word_starts : List ℕ → List ℕ
word_starts text = starts 0 (word_bounds (encode_utf8_all text))
