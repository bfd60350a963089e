-- What contracts see of the seats of a hub, and what is true of each between two calls.
use Rattle.std.specs.Prelude.{◌≡◌, ℕ, List, [], ◌∷◌, ◌++◌, slice_get, Option, Some, option_to_list}
use Rattle.ax_tree.specs.declared.packet.JEntry.{JEntry}
use Rattle.ax_tree.specs.declared.packet.HEntry.{HEntry}
use Rattle.ax_tree.specs.declared.packet.Packet.{Packet}
use Rattle.ax_tree.specs.Packets.{Fits}
use Rattle.ax_turn.specs.Ids.{TurnId}
use Rattle.ax_turn.specs.Seats.{SeatView}
use Rattle.ax_lane.specs.Ends.{LaneId, TxView, RxView}
use Rattle.ax_stays.specs.declared.parcel.Parcel.{Parcel}
use Rattle.ax_stays.specs.Makers.{IsSeatFor}
use Rattle.ax_stays.specs.FrameCalls.{packets_in}
use Rattle.ax_hub.specs.BrowserCalls.{HeldCanBeReceived}
use Rattle.ax_stays.specs.Received.{received}

-- ---- frames

pub record FrameSeatView : Type 0 where
  pub at : ℕ
  pub turn : TurnId
  pub lane : LaneId
  pub tree : ℕ
  pub seen : List JEntry
  pub sent : List Packet
  pub kept : Option Parcel

abbrev pub frame_seat_view : ℕ → SeatView JEntry → TxView → Option Parcel → FrameSeatView
frame_seat_view at seat tx kept = record { at = at; turn = seat.turn; lane = tx.lane; tree = tx.tree; seen = seat.seen; sent = tx.sent; kept = kept }

-- The seat stands for the frame in its turn, whose values have the tree's number alone as their name. The packets that it has sent, with the one that it keeps, fit the journal that it has seen.
pub record IsFrameSeatWhole (seat : SeatView JEntry) (tx : TxView) (kept : Option Parcel) : Type 0 where
  pub stands : IsSeatFor 0 seat
  pub name : seat.turn.name ≡ tx.tree ∷ []
  pub fits : Fits tx.tree seat.seen (tx.sent ++ packets_in kept)

-- ---- the browser

pub record BrowserSeatView : Type 0 where
  pub turn : TurnId
  pub lane : LaneId
  pub seen : List HEntry
  pub held : Option Packet
  pub lulls : ℕ
  pub deliveries : List (SeatView JEntry)

abbrev pub browser_seat_view : SeatView HEntry → RxView → Option Packet → List (SeatView JEntry) → BrowserSeatView
browser_seat_view seat rx held deliveries = record { turn = seat.turn; lane = rx.lane; seen = seat.seen; held = held; lulls = rx.lulls; deliveries = deliveries }

-- The seat stands for the browser in the forest's turn and in each frame's. What it has taken out of the lane is what it has received, and then what it holds, which comes next of its tree.
pub record IsBrowserSeatWhole (seat : SeatView HEntry) (rx : RxView) (held : Option Packet) (deliveries : List (SeatView JEntry)) : Type 0 where
  pub stands : IsSeatFor 0 seat
  pub trees : rx.trees ≡ seat.turn.name
  pub got : rx.got ≡ received seat.seen ++ option_to_list held
  pub next : HeldCanBeReceived seat.turn.name seat.seen held
  pub delivers : (at : ℕ) (d : SeatView JEntry) → slice_get deliveries at ≡ Some d → IsSeatFor 1 d

-- ---- readers

pub record ReaderSeatView : Type 0 where
  pub turn : TurnId
  pub number : ℕ
  pub seen : List HEntry
  pub enters : ℕ

abbrev pub reader_seat_view : ℕ → SeatView HEntry → ReaderSeatView
reader_seat_view number seat = record { turn = seat.turn; number = number; seen = seat.seen; enters = seat.enters }
