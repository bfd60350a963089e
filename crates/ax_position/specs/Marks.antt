-- What the calls answer of a position, or how they refuse it.
use Rattle.std.specs.Prelude.{ℕ, ◌≡◌, nat_lt, ◌==◌, not, if◌then◌else◌, List, length, slice_get, Option, Some, None, Result, Ok, Err}
use Rattle.ax_base.specs.declared.position.Place.{Place}
use Rattle.ax_base.specs.declared.position.Pos.{Pos}
use Rattle.ax_base.specs.declared.position.Pos.TheVariants.{Null, Tree, Text}
use Rattle.ax_base.specs.declared.position.PosErr.{PosErr}
use Rattle.ax_base.specs.declared.position.PosErr.TheVariants.{NoTree, NoNode}
use Rattle.ax_tree.specs.Forest.{Forest}
use Rattle.ax_rules.specs.Positions.{Mark, mark, is_live, child_mark, text_mark}
use Rattle.ax_rules.specs.Stitched.{Placed, place_at, stitched, has_place, children_of}
use Rattle.ax_position.specs.declared.marked.Marked.{Marked}
use Rattle.ax_position.specs.declared.pairs.Both.{Both}
use Rattle.ax_position.specs.declared.survey.Asked.{Asked}

-- what `answer` gives of the mark of a position, or the position's refusal
abbrev pub of_mark : {A : Type 0} → (Mark → A) → Result Mark PosErr → Result A PosErr
of_mark answer (Ok m) = Ok (answer m)
of_mark answer (Err e) = Err e

-- the mark without where its place starts
abbrev pub mark_in_text : Result Marked PosErr → Result Mark PosErr
mark_in_text (Ok m) = Ok (mark m.place m.offset m.affinity)
mark_in_text (Err e) = Err e

-- the place of a position
abbrev pub place_in : Pos → Option Place
place_in Null = None
place_in (Tree t z c) = Some (place_at t z)
place_in (Text t z o a) = Some (place_at t z)

-- the text position for which a position stands, where its place is in the list
abbrev pub mark_there : List Placed → Pos → Result Mark PosErr
mark_there l Null = Err NoTree
mark_there l (Tree t z c) = child_mark l (place_at t z) c
mark_there l (Text t z o a) = text_mark l (place_at t z) o a

-- the child before which an index stands, none behind the last one; or how many children there are, where the index is greater
abbrev pub child_before : List Place → ℕ → Result (Option Place) ℕ
child_before xs c = if nat_lt (length xs) c then Err (length xs) else Ok (slice_get xs c)

-- how much of a place's text stands before a child at most: a leaf's own text stands before none
abbrev pub most_before : ℕ → ℕ
most_before c = if c == 0 then 0 else 18446744073709551615

-- why a place has no position
unfoldable pub place_refusal : Forest → Place → Option PosErr
place_refusal f p = if not (is_live f p.tree) then Some NoTree else if has_place (stitched f) p then None else Some NoNode

-- what is to be asked of the place of a position: the text before a child, or as much of the whole as the offset
abbrev pub IsAsked : List Placed → Pos → Asked → Type 0
IsAsked l Null a = ⊥
IsAsked l (Tree t z c) a = (place_at t z ≡ a.place) × ((child_before (children_of l a.place) c ≡ Ok a.end) × (a.limit ≡ most_before c))
IsAsked l (Text t z o f) a = (place_at t z ≡ a.place) × ((a.end ≡ None) × (a.limit ≡ o))

-- the marks of two positions
abbrev pub two_marks : Mark → Mark → Mark × Mark
two_marks m n = (m, n)

abbrev pub marks_in_text : Result Both PosErr → Result (Mark × Mark) PosErr
marks_in_text (Ok b) = Ok (mark b.one.place b.one.offset b.one.affinity, mark b.other.place b.other.offset b.other.affinity)
marks_in_text (Err e) = Err e
