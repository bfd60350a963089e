-- What a closed hub leaves.
use Rattle.std.specs.Prelude.{◌≡◌, ℕ, suc, ◌+◌, List, [], ◌∷◌, ◌++◌, map, All, Option, option_to_list}
use Rattle.ax_tree.specs.declared.packet.JEntry.{JEntry}
use Rattle.ax_tree.specs.declared.packet.HEntry.{HEntry}
use Rattle.ax_tree.specs.declared.packet.Packet.{Packet}
use Rattle.ax_tree.specs.Packets.{Fits}
use Rattle.ax_turn.specs.Ids.{TurnId}
use Rattle.ax_turn.specs.Makers.{GrowsByOthers}
use Rattle.ax_turn.specs.Seats.{SeatView}
use Rattle.ax_lane.specs.Ends.{TxView}
use Rattle.ax_lane.specs.Packets.{of_tree, AllOf}
use Rattle.ax_rules.specs.Histories.{got}
use Rattle.ax_frame.specs.Frames.{Journaled}
use Rattle.ax_taken.specs.Taking.{cuts_of}
use Rattle.ax_stays.specs.FrameCalls.{packets_in}
use Rattle.ax_stays.specs.Makers.{maker_of, by_browser}
use Rattle.ax_hub.specs.Seats.{FrameSeatView, ReaderSeatView}

abbrev pub turn_of : FrameSeatView → TurnId
turn_of s = s.turn

-- ---- readers

-- the readers' seats of this turn, with the numbers from this one on
abbrev pub AreReadersFrom : TurnId → ℕ → List ReaderSeatView → Type 0
AreReadersFrom turn number [] = turn.makers ≡ number
AreReadersFrom turn number (s ∷ seats) = (s.turn ≡ turn) × (s.number ≡ number) × AreReadersFrom turn (suc number) seats

-- they are all readers of the turn, whose makers are the browser and they
abbrev pub AreAllReaders : TurnId → List ReaderSeatView → Type 0
AreAllReaders turn seats = AreReadersFrom turn 1 seats

-- the history goes on from what the reader has seen, by others' entries
abbrev pub IsHistoryOf : List HEntry → ReaderSeatView → Type 0
IsHistoryOf h s = GrowsByOthers by_browser s.number (s.number + 1) s.seen h

-- ---- frames

-- The journal goes on from what the frame's seat has seen by deliveries alone, and from what the browser's seat has seen by the frame's entries alone.
pub record IsFrameClosed (s : FrameSeatView) (d : SeatView JEntry) (f : Journaled) : Type 0 where
  pub tree : f.tree ≡ s.tree
  pub own : GrowsByOthers maker_of 0 1 s.seen f.journal
  pub told : GrowsByOthers maker_of 1 2 d.seen f.journal

abbrev pub AreFramesClosed : List FrameSeatView → List (SeatView JEntry) → List Journaled → Type 0
AreFramesClosed [] [] [] = Unit {0}
AreFramesClosed (s ∷ ss) (d ∷ ds) (f ∷ fs) = IsFrameClosed s d f × AreFramesClosed ss ds fs
AreFramesClosed ss ds fs = ⊥

-- for each frame, and there for each packet that it made, how many entries of its journal stand up to and with the pass that made it
abbrev pub AreMade : List Journaled → List (List ℕ) → Type 0
AreMade frames made = made ≡ map (λ (f : Journaled). cuts_of f.tree f.journal) frames

-- ---- packets

-- the packets that the seats keep, in the seats' order
abbrev pub kept_packets : List FrameSeatView → List Packet
kept_packets [] = []
kept_packets (s ∷ seats) = packets_in s.kept ++ kept_packets seats

-- of the frame's tree, the packets received and then those that wait fit its journal
abbrev pub PacketsFit : List HEntry → List Packet → Journaled → Type 0
PacketsFit h waiting f = Fits f.tree f.journal (got h f.tree ++ of_tree f.tree waiting)

-- What closing a frame's turn leaves of its seat beside the frame: its sender. All packets that the seat has sent, with the one that it keeps, fit the journal.
pub record IsSeatClosed (s : FrameSeatView) (d : SeatView JEntry) (f : Journaled) (t : TxView) : Type 0 where
  pub closed : IsFrameClosed s d f
  pub name : s.turn.name ≡ s.tree ∷ []
  pub fits : Fits s.tree f.journal (s.sent ++ packets_in s.kept)
  pub lane : t.lane ≡ s.lane
  pub tree : t.tree ≡ s.tree
  pub sent : t.sent ≡ s.sent

abbrev pub AreSeatsClosed : List FrameSeatView → List (SeatView JEntry) → List Journaled → List TxView → Type 0
AreSeatsClosed [] [] [] [] = Unit {0}
AreSeatsClosed (s ∷ ss) (d ∷ ds) (f ∷ fs) (t ∷ ts) = IsSeatClosed s d f t × AreSeatsClosed ss ds fs ts
AreSeatsClosed ss ds fs ts = ⊥

-- one seat more was closed
pub record IsMoreClosed (s : FrameSeatView) (d : SeatView JEntry) (before after : List Journaled) (sent_before sent_after : List TxView) : Type 0 where
  pub frame : Journaled
  pub sender : TxView
  pub closed : IsSeatClosed s d frame sender
  pub frames : after ≡ before ++ frame ∷ []
  pub senders : sent_after ≡ sent_before ++ sender ∷ []

-- What is left of the lane: the packets in it, of known trees. With what was taken they are what the senders have sent.
pub record IsLeft (trees : List ℕ) (got left : List Packet) (senders : List TxView) : Type 0 where
  pub known : AllOf trees left
  pub whole : All (λ (t : TxView). of_tree t.tree (got ++ left) ≡ t.sent) senders

pub record AreWaiting (trees : List ℕ) (got held kept waiting : List Packet) (senders : List TxView) : Type 0 where
  pub left : List Packet
  pub is_left : IsLeft trees got left senders
  pub all : waiting ≡ (held ++ left) ++ kept

-- what waits, from its front: the packet that the browser holds, those that were in the lane, and those that the frames' seats keep
pub record IsWaiting (held : Option Packet) (kept waiting : List Packet) : Type 0 where
  pub left : List Packet
  pub all : waiting ≡ (option_to_list held ++ left) ++ kept
