-- The laws of places and bounds, over all sound forests.
use Rattle.std.specs.Prelude.{ℕ, ◌≡◌, ◌≤◌, ◌+◌, true, length, Some, Ok, is_some}
use Rattle.ax_base.specs.declared.position.Place.{Place}
use Rattle.ax_base.specs.declared.position.Affinity.{Affinity}
use Rattle.ax_base.specs.declared.position.Pos.{Pos}
use Rattle.ax_base.specs.declared.position.Unit as position
use Rattle.ax_base.specs.declared.position.Way.{Way}
use Rattle.ax_tree.specs.Forest.{Forest, IsSound}
use Rattle.ax_rules.specs.Sequences.{first_of}
use Rattle.ax_rules.specs.Stitched.{stitched, has_place}
use Rattle.ax_rules.specs.Texts.{capped, leaves_in, text_len, start_of, document}
use Rattle.ax_rules.specs.Positions.{Mark, checked, global_offset, leaf_form}
use Rattle.ax_rules.specs.Moves.{bounds_of, bound_after, bound_before, bound_of, move_of}
use Rattle.ax_place_laws.specs.Lists.{EachOf, NoPlaceTwice, NamesAreText, Ascends, TheLeastAbove, TheGreatestBelow}

-- ---- places

-- No place stands twice in the joined list.
abbrev pub NoPlaceStandsTwice : Type 0
NoPlaceStandsTwice = (f : Forest) → IsSound f → NoPlaceTwice (stitched f)

-- Each place of the joined list has a leaf: itself, or one below it.
abbrev pub EachPlaceHasALeaf : Type 0
EachPlaceHasALeaf = (f : Forest) (p : Place) → IsSound f → has_place (stitched f) p ≡ true → is_some (first_of (leaves_in (stitched f) p)) ≡ true

-- ---- leaf forms

-- At each offset of a place's text there is a leaf form, with either affinity.
abbrev pub EachOffsetHasALeafForm : Type 0
EachOffsetHasALeafForm =
    (f : Forest) (p : Place) (o : ℕ) (a : Affinity) → IsSound f → has_place (stitched f) p ≡ true → o ≤ text_len (stitched f) p
    → is_some (leaf_form (stitched f) p (capped (start_of (stitched f) p + o)) a) ≡ true

-- So has each position that isn't refused.
abbrev pub EachPositionHasALeafForm : Type 0
EachPositionHasALeafForm =
    (f : Forest) (x : Pos) (m : Mark) → IsSound f → checked f x ≡ Ok m → is_some (leaf_form (stitched f) m.place (global_offset (stitched f) m) m.affinity) ≡ true

-- A move that reaches a bound has a position there.
abbrev pub EachBoundHasAPosition : Type 0
EachBoundHasAPosition =
    (f : Forest) (u : position.Unit) (w : Way) (m : Mark) (g : ℕ) → IsSound f → bound_of (stitched f) u w (global_offset (stitched f) m) ≡ Some g
    → is_some (move_of (stitched f) u w m) ≡ true

-- ---- bounds

-- The bounds ascend, where the names are text.
abbrev pub BoundsAscend : Type 0
BoundsAscend = (f : Forest) (u : position.Unit) → IsSound f → NamesAreText (stitched f) → Ascends (bounds_of (stitched f) u)

-- None is above the document's length.
abbrev pub EachBoundIsInTheDocument : Type 0
EachBoundIsInTheDocument =
    (f : Forest) (u : position.Unit) → IsSound f → NamesAreText (stitched f) → EachOf (λ b. b ≤ capped (length (document (stitched f)))) (bounds_of (stitched f) u)

-- So the first bound above an offset is the least above it.
abbrev pub TheFirstAboveIsTheLeast : Type 0
TheFirstAboveIsTheLeast =
    (f : Forest) (u : position.Unit) (g : ℕ) → IsSound f → NamesAreText (stitched f) → TheLeastAbove g (bounds_of (stitched f) u) (bound_after (stitched f) u g)

-- And the last below it is the greatest below it.
abbrev pub TheLastBelowIsTheGreatest : Type 0
TheLastBelowIsTheGreatest =
    (f : Forest) (u : position.Unit) (g : ℕ) → IsSound f → NamesAreText (stitched f) → TheGreatestBelow g (bounds_of (stitched f) u) (bound_before (stitched f) u g)
