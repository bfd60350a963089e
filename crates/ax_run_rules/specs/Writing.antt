-- How numbers, ids, strings, places and rectangles are printed.
use Rattle.std.specs.Prelude.{ℕ, ℤ, Bool, true, false, ◌==◌, nat_lt, ◌/◌, ◌%◌, if◌then◌else◌, List, [], ◌∷◌, ◌++◌, codes, flat_map, Option, Some, None, encode_utf8_all}
use Rattle.std.specs.List.{join_by}
use Rattle.std.specs.Fmt.{decimal, signed_decimal, digit_glyph}
use Rattle.ax_base.specs.declared.position.Place.{Place}

infixr 60 ◌⌢◌
-- one text and then another
abbrev pub ◌⌢◌ : List ℕ → List ℕ → List ℕ
xs ⌢ ys = xs ++ ys

-- texts with a space between
abbrev pub spaced : {A : Type 0} → (A → List ℕ) → List A → List ℕ
spaced text xs = join_by text (codes " ") xs

-- the same, and `-` where there is none
abbrev pub listing : {A : Type 0} → (A → List ℕ) → List A → List ℕ
listing text [] = codes "-"
listing text (x ∷ xs) = spaced text (x ∷ xs)

-- two numbers with a space between
abbrev pub pair_text : ℕ → ℕ → List ℕ
pair_text a b = decimal a ⌢ codes " " ⌢ decimal b

-- a word and a number, or two
abbrev pub with_number : List ℕ → ℕ → List ℕ
with_number word a = word ⌢ codes " " ⌢ decimal a

abbrev pub with_numbers : List ℕ → ℕ → ℕ → List ℕ
with_numbers word a b = word ⌢ codes " " ⌢ pair_text a b

-- an id, and 0 where there is none
abbrev pub id_text : Option ℕ → List ℕ
id_text None = codes "0"
id_text (Some i) = decimal i

abbrev pub yes_no : Bool → List ℕ
yes_no true = codes "yes"
yes_no false = codes "no"

-- ---- strings

abbrev pub control_text : ℕ → List ℕ
control_text c = codes "\\u00" ⌢ (digit_glyph false (c / 16) ∷ digit_glyph false (c % 16) ∷ [])

abbrev pub quoted_scalar : ℕ → List ℕ
quoted_scalar c =
    if c == 34 then codes "\\\"" else
    if c == 92 then codes "\\\\" else
    if c == 8 then codes "\\b" else
    if c == 12 then codes "\\f" else
    if c == 10 then codes "\\n" else
    if c == 13 then codes "\\r" else
    if c == 9 then codes "\\t" else
    if nat_lt c 32 then control_text c else c ∷ []

-- the bytes of a text of scalars, between quotes
unfoldable pub quoted : List ℕ → List ℕ
quoted s = codes "\"" ⌢ encode_utf8_all (flat_map quoted_scalar s) ⌢ codes "\""

-- ---- places and rectangles

unfoldable pub place_text : Place → List ℕ
place_text p = decimal p.tree ⌢ codes ":" ⌢ decimal p.node

unfoldable pub area_text : ℤ → ℤ → ℤ → ℤ → List ℕ
area_text x y w h =
    codes "[" ⌢ signed_decimal x ⌢ codes "," ⌢ signed_decimal y ⌢ codes "," ⌢ signed_decimal w ⌢ codes "," ⌢ signed_decimal h ⌢ codes "]"
