-- The bounds of a document by characters, words and leaves, and where a position moves to.
use Rattle.std.specs.Prelude.{ℕ, nat_lt, ◌+◌, List, [], ◌∷◌, filter, find, map, flat_map, Option, option_map, option_and_then}
use Rattle.ax_base.specs.declared.position.Place.{Place}
use Rattle.ax_base.specs.declared.position.Affinity.TheVariants.{Down}
use Rattle.ax_base.specs.declared.position.Pos.{Pos}
use Rattle.ax_base.specs.declared.position.Unit as position
use Rattle.ax_base.specs.declared.position.Unit.TheVariants.{Char, Word, Leaf}
use Rattle.ax_base.specs.TextBounds.{grapheme_bounds, word_starts}
use Rattle.ax_base.specs.declared.position.Way.{Way}
use Rattle.ax_base.specs.declared.position.Way.TheVariants.{Next, Prev}
use Rattle.ax_rules.specs.Sequences.{first_of, last_of}
use Rattle.ax_rules.specs.Looks.{name_text}
use Rattle.ax_rules.specs.Stitched.{Placed, leaves}
use Rattle.ax_rules.specs.Texts.{capped, start_of}
use Rattle.ax_rules.specs.Positions.{Mark, global_offset, leaf_form}

-- the bounds within the text of a leaf
abbrev pub bounds_within : position.Unit → List ℕ → List ℕ
bounds_within Char text = grapheme_bounds text
bounds_within Word text = word_starts text
bounds_within Leaf text = 0 ∷ []

-- the bounds of all leaves, in the leaves' order, which is ascending
unfoldable pub bounds_of : List Placed → position.Unit → List ℕ
bounds_of l u = flat_map (λ (s : Placed). map (λ b. capped (start_of l s.place + b)) (bounds_within u (name_text s.look))) (leaves l)

-- the least bound above an offset, and the greatest below it
unfoldable pub bound_after : List Placed → position.Unit → ℕ → Option ℕ
bound_after l u g = find (nat_lt g) (bounds_of l u)

unfoldable pub bound_before : List Placed → position.Unit → ℕ → Option ℕ
bound_before l u g = last_of (filter (λ b. nat_lt b g) (bounds_of l u))

abbrev pub bound_of : List Placed → position.Unit → Way → ℕ → Option ℕ
bound_of l u Next g = bound_after l u g
bound_of l u Prev g = bound_before l u g

abbrev pub first_place : List Placed → Option Place
first_place l = option_map (λ (s : Placed). s.place) (first_of l)

-- the leaf form, on the first place and downstream, of the bound that the move reaches
unfoldable pub move_of : List Placed → position.Unit → Way → Mark → Option Pos
move_of l u w m =
    option_and_then (λ g. option_and_then (λ p. leaf_form l p g Down) (first_place l)) (bound_of l u w (global_offset l m))
