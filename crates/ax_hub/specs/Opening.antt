-- The seats of a new hub.
use Rattle.std.specs.Prelude.{◌≡◌, ℕ, zero, suc, List, [], ◌∷◌, ◌++◌, length, map, None}
use Rattle.ax_tree.specs.declared.packet.JEntry.{JEntry}
use Rattle.ax_turn.specs.Ids.{TurnId}
use Rattle.ax_turn.specs.Seats.{SeatView}
use Rattle.ax_lane.specs.Ends.{LaneId}
use Rattle.ax_hub.specs.Hubs.{HubView}
use Rattle.ax_stays.specs.Makers.{new_seat}
use Rattle.ax_hub.specs.Seats.{FrameSeatView, BrowserSeatView, ReaderSeatView}

abbrev pub new_frame_seat : LaneId → ℕ → ℕ → TurnId → FrameSeatView
new_frame_seat lane at t turn = record { at = at; turn = turn; lane = lane; tree = t; seen = []; sent = []; kept = None }

abbrev pub new_browser_seat : HubView → BrowserSeatView
new_browser_seat hub = record { turn = hub.forest; lane = hub.lane; seen = []; held = None; lulls = 0; deliveries = map (λ (turn : TurnId). new_seat turn 1 2) hub.frames }

abbrev pub new_reader_seat : TurnId → ℕ → ReaderSeatView
new_reader_seat turn number = record { turn = turn; number = number; seen = []; enters = 0 }

-- for each tree, from this place on, a turn of two makers with its number as its name, and the frame's seat
abbrev pub AreNewFrames : LaneId → ℕ → List ℕ → List TurnId → List FrameSeatView → Type 0
AreNewFrames lane at [] [] [] = Unit {0}
AreNewFrames lane at (t ∷ trees) (turn ∷ turns) (s ∷ seats) =
    (turn.makers ≡ 2) × (turn.name ≡ t ∷ []) × (s ≡ new_frame_seat lane at t turn) × AreNewFrames lane (suc at) trees turns seats
AreNewFrames lane at trees turns seats = ⊥

-- so many readers' seats, with the numbers from this one on
abbrev pub AreNewReaders : TurnId → ℕ → ℕ → List ReaderSeatView → Type 0
AreNewReaders turn number zero [] = Unit {0}
AreNewReaders turn number (suc count) (s ∷ seats) = (s ≡ new_reader_seat turn number) × AreNewReaders turn (suc number) count seats
AreNewReaders turn number count seats = ⊥

-- the frame of a tree was added at the end
pub record IsFrameAdded (lane : LaneId) (t : ℕ) (turns_before turns_after : List TurnId) (seats_before seats_after : List FrameSeatView) (told_before told_after : List (SeatView JEntry)) : Type 0 where
  pub turn : TurnId
  pub makers : turn.makers ≡ 2
  pub name : turn.name ≡ t ∷ []
  pub turns : turns_after ≡ turns_before ++ turn ∷ []
  pub seats : seats_after ≡ seats_before ++ new_frame_seat lane (length seats_before) t turn ∷ []
  pub deliveries : told_after ≡ told_before ++ new_seat turn 1 2 ∷ []
