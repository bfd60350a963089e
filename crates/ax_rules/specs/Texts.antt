-- The text of a place, where it starts in the document, and how long it is.
use Rattle.std.specs.Prelude.{ℕ, List, length, filter, flat_map, min}
use Rattle.ax_base.specs.declared.position.Place.{Place}
use Rattle.ax_rules.specs.Looks.{name_text}
use Rattle.ax_rules.specs.Stitched.{Placed, is_within, is_leaf, leaves, before}

-- A length, start, offset or bound stands at the last value of `usize` where it would pass it.
abbrev pub capped : ℕ → ℕ
capped n = min n 18446744073709551615

-- a leaf's text is its name; these texts in order
unfoldable pub joined : List Placed → List ℕ
joined l = flat_map (λ (s : Placed). name_text s.look) l

-- the leaves of a place: itself, where it is one, or those below it
unfoldable pub leaves_in : List Placed → Place → List Placed
leaves_in l p = filter (is_within p) (leaves l)

-- a place's text joins the texts of its leaves
unfoldable pub text_of : List Placed → Place → List ℕ
text_of l p = joined (leaves_in l p)

unfoldable pub text_len : List Placed → Place → ℕ
text_len l p = capped (length (text_of l p))

-- the length of the text before the place
unfoldable pub start_of : List Placed → Place → ℕ
start_of l p = capped (length (joined (filter (is_leaf l) (before l p))))

unfoldable pub document : List Placed → List ℕ
document l = joined (leaves l)
