-- Which of two places stands first in the list.
use Rattle.std.specs.Prelude.{Bool, true, false, if◌then◌else◌, Option, Some, None, Result, Ok, Err}
use Rattle.std.specs.declared.cmp.Ordering.{Ordering}
use Rattle.std.specs.declared.cmp.Ordering.TheVariants.{Less, Greater}
use Rattle.ax_base.specs.declared.position.Place.{Place}
use Rattle.ax_base.specs.declared.position.PosErr.{PosErr}
use Rattle.ax_rules.specs.Looks.{same_place}
use Rattle.ax_rules.specs.Positions.{Mark}
use Rattle.ax_position.specs.Walks.{Row}
use Rattle.ax_position.specs.declared.ranks.Meeting.{Meeting}

-- the first that was met, and what is met now where none was
abbrev pub first_met : Option Bool → Option Bool → Option Bool
first_met (Some b) o = Some b
first_met None o = o

abbrev pub met_now : Place → Place → Place → Option Bool
met_now p one other = if same_place p one then Some true else if same_place p other then Some false else None

abbrev pub met_at : Place → Meeting → Meeting
met_at q s = record { one = s.one; other = s.other; first = first_met s.first (met_now q s.one s.other) }

abbrev pub met_first : Meeting → Row → Meeting
met_first s r = met_at r.place s

-- nothing is met yet
abbrev pub begun_meeting : Place → Place → Meeting
begun_meeting p q = record { one = p; other = q; first = None }

-- what `answer` gives of two marks, or the refusal of the first before that of the second
abbrev pub of_marks : {A : Type 0} → (Mark → Mark → A) → Result Mark PosErr → Result Mark PosErr → Result A PosErr
of_marks answer (Err r) n = Err r
of_marks answer (Ok m) (Err r) = Err r
of_marks answer (Ok m) (Ok n) = Ok (answer m n)

abbrev pub by_first : Option Bool → Ordering → Ordering
by_first (Some true) same = Less
by_first (Some false) same = Greater
by_first None same = same
