-- What a walk makes of the bounds of leaves.
use Rattle.std.specs.Prelude.{ℕ, ◌+◌, Bool, true, false, nat_lt, nat_le, not, ◌&&◌, ◌||◌, if◌then◌else◌, List, [], find, filter, map, length, Option, Some, None, is_some}
use Rattle.ax_base.specs.declared.position.Unit as position
use Rattle.ax_base.specs.declared.position.Unit.TheVariants.{Char, Word, Leaf}
use Rattle.ax_base.specs.TextBounds.{grapheme_bounds, word_starts}
use Rattle.ax_trees.specs.Lists.{is_nil}
use Rattle.ax_rules.specs.Sequences.{first_of, last_of}
use Rattle.ax_rules.specs.Texts.{capped}
use Rattle.ax_rules.specs.Moves.{bounds_within}
use Rattle.ax_position.specs.Walks.{Row}
use Rattle.ax_moves.specs.declared.above.Above.{Above}
use Rattle.ax_moves.specs.declared.below.Below.{Below}
use Rattle.ax_moves.specs.declared.below.Held.{Held}

-- bounds of a text that starts at n
abbrev pub moved : ℕ → List ℕ → List ℕ
moved n bounds = map (λ b. capped (n + b)) bounds

abbrev pub bounds_from : position.Unit → ℕ → List ℕ → List ℕ
bounds_from u n text = moved n (bounds_within u text)

-- the bounds of a text by words, or else by characters
abbrev pub listed : position.Unit → List ℕ → List ℕ
listed Word text = word_starts text
listed Char text = grapheme_bounds text
listed Leaf text = grapheme_bounds text

-- by leaves no memory is taken
abbrev pub takes_memory : position.Unit → Bool
takes_memory Char = true
takes_memory Word = true
takes_memory Leaf = false

-- the first leaf with a bound above the offset gives the first such
abbrev pub searched_above : Above → Row → Above
searched_above s r =
    if is_some s.found || not r.leaf then s
    else record { unit = s.unit; offset = s.offset; at = capped (s.at + length r.text); found = find (nat_lt s.offset) (bounds_from s.unit s.at r.text) }

-- the text of a leaf, where its bounds are to be listed
abbrev pub held_text : position.Unit → List ℕ → Option (List ℕ)
held_text u text = if takes_memory u && not (is_nil text) then Some text else None

-- there is a first bound, and it is below the offset
abbrev pub is_below : ℕ → Option ℕ → Bool
is_below g None = false
is_below g (Some b) = nat_lt b g

-- the last leaf whose first bound is below the offset
abbrev pub searched_below : Below → Row → Below
searched_below s r =
    if nat_le s.offset s.at || not r.leaf then s
    else record {
      unit = s.unit;
      offset = s.offset;
      at = capped (s.at + length r.text);
      found = if is_below s.offset (first_of (bounds_from s.unit s.at r.text)) then Some (record { start = s.at; text = held_text s.unit r.text }) else s.found;
    }

abbrev pub text_held : Option (List ℕ) → List ℕ
text_held None = []
text_held (Some text) = text

-- the last bound below an offset of the leaf that is held
abbrev pub last_held : position.Unit → ℕ → Held → Option ℕ
last_held u g h = last_of (filter (λ b. nat_lt b g) (bounds_from u h.start (text_held h.text)))
