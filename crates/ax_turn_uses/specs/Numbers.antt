-- The numbers of one thread among the notes, and its seat.
use Rattle.std.specs.Prelude.{◌≡◌, ℕ, zero, suc, ◌+◌, false, List, [], ◌∷◌, ◌++◌, ◌==◌, if◌then◌else◌}
use Rattle.ax_turn.specs.Ids.{TurnId}
use Rattle.ax_turn.specs.Seats.{SeatView}
use Rattle.ax_turn_uses.specs.declared.notes.Note.{Note}

abbrev pub maker_of : Note → ℕ
maker_of note = note.by

abbrev pub numbers_by : ℕ → List Note → List ℕ
numbers_by k [] = []
numbers_by k (note ∷ notes) = if note.by == k then note.number ∷ numbers_by k notes else numbers_by k notes

-- 0, 1, 2 and so on, n numbers
unfoldable pub first_numbers : ℕ → List ℕ
first_numbers zero = []
first_numbers (suc n) = first_numbers n ++ n ∷ []

-- the seat is of this turn, is not inside, and stands for the thread's number alone
pub record IsSeatFor (turn : TurnId) (by : ℕ) (seat : SeatView Note) : Type 0 where
  pub of : seat.turn ≡ turn
  pub idle : seat.inside ≡ false
  pub low : seat.low ≡ by
  pub high : seat.high ≡ by + 1
