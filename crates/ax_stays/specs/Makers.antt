-- Who makes the entries of a frame's journal and of the history, and the seats that stand for one maker.
use Rattle.std.specs.Prelude.{◌≡◌, ℕ, ◌+◌, false, []}
use Rattle.ax_tree.specs.declared.packet.JEntry.{JEntry}
use Rattle.ax_tree.specs.declared.packet.JEntry.TheVariants.{Edited, Marked, MarkedBelow, Passed, Short, Delivered}
use Rattle.ax_tree.specs.declared.packet.HEntry.{HEntry}
use Rattle.ax_turn.specs.Ids.{TurnId}
use Rattle.ax_turn.specs.Seats.{SeatView}

-- Of a journal the frame is maker 0, and the browser, which delivers, is maker 1.
abbrev pub maker_of : JEntry → ℕ
maker_of (Edited e) = 0
maker_of (Marked z) = 0
maker_of (MarkedBelow z) = 0
maker_of Passed = 0
maker_of Short = 0
maker_of (Delivered n) = 1

-- Of the history the browser, maker 0, makes every entry. A reader has a number and makes none.
abbrev pub by_browser : HEntry → ℕ
by_browser e = 0

-- a seat of the turn that hasn't entered yet and has seen nothing
abbrev pub new_seat : {E : Type 0} → TurnId → ℕ → ℕ → SeatView E
new_seat turn low high = record { turn = turn; inside = false; seen = []; low = low; high = high; enters = 0 }

-- the seat isn't inside, and stands for this one maker
pub record IsSeatFor {E : Type 0} (maker : ℕ) (seat : SeatView E) : Type 0 where
  pub idle : seat.inside ≡ false
  pub low : seat.low ≡ maker
  pub high : seat.high ≡ maker + 1
