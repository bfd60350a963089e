-- What the calls of a closing hub are given, and what they leave, by what is true of the hub and of the browser's seat.
use Rattle.std.proofs.Common.{◌≡◌, ℕ, List, ◌++◌, map, Option, option_to_list, All, sym, ap, ◌∙◌, subst}
use Rattle.ax_tree.specs.declared.packet.JEntry.{JEntry}
use Rattle.ax_tree.specs.declared.packet.HEntry.{HEntry}
use Rattle.ax_tree.specs.declared.packet.Packet.{Packet}
use Rattle.ax_turn.specs.Ids.{TurnId}
use Rattle.ax_turn.specs.Seats.{SeatView}
use Rattle.ax_lane.specs.Ends.{LaneId, TxView, RxView}
use Rattle.ax_lane.specs.Packets.{AllOf}
use Rattle.ax_forest.specs.Past.{Past}
use Rattle.ax_frame.specs.Frames.{Journaled}
use Rattle.ax_hub.specs.BrowserCalls.{HeldCanBeReceived}
use Rattle.ax_hub.specs.Closing.{turn_of, kept_packets, AreAllReaders, AreFramesClosed, AreSeatsClosed, AreWaiting, IsHistoryOf, IsWaiting, PacketsFit}
use Rattle.ax_hub.specs.Hubs.{HubView, IsBrowserSeatOf, IsHubWhole}
use Rattle.ax_hub.specs.Seats.{FrameSeatView, BrowserSeatView, ReaderSeatView, browser_seat_view, IsBrowserSeatWhole}
use Rattle.ax_hub.proofs.Browser.{browser_turn}
use Rattle.ax_hub.proofs.Closed.{all_fit, all_known, closed_trees, frames_closed, named_trees, seat_tree, senders_lane}
use Rattle.ax_hub.proofs.Turns.{hub_view}

module _ (hub : HubView) (frames : List TurnId) (forest : TurnId) (lane : LaneId) (places : List ℕ) (hub_is : hub_view frames forest lane ≡ hub) (whole : IsHubWhole frames forest places) (b : BrowserSeatView) (seat : SeatView HEntry) (rx : RxView)
    (held : Option Packet) (deliveries : List (SeatView JEntry)) (seat_is : browser_seat_view seat rx held deliveries ≡ b) (own : IsBrowserSeatWhole seat rx held deliveries) (of : IsBrowserSeatOf hub b) where
  turned : seat.turn ≡ forest
  turned = browser_turn hub frames forest lane hub_is b seat rx held deliveries seat_is of

  -- ---- the forest

  pub readers_inside : (readers : List ReaderSeatView) → AreAllReaders hub.forest readers → AreAllReaders forest readers
  readers_inside readers all = subst (λ (t : TurnId). AreAllReaders t readers) (ap (λ (h : HubView). h.forest) (sym hub_is)) all

  pub history_left : (past : Past) → past ≡ record { trees = forest.name; history = seat.seen } → past ≡ record { trees = hub.forest.name; history = b.seen }
  history_left past e = e ∙ λ i. record { trees = (hub_is i).forest.name; history = (seat_is i).seen }

  pub histories_left : (past : Past) (readers : List ReaderSeatView) → past ≡ record { trees = forest.name; history = seat.seen } → All (IsHistoryOf seat.seen) readers → All (IsHistoryOf past.history) readers
  histories_left past readers e all = subst (λ (h : List HEntry). All (IsHistoryOf h) readers) (ap (λ (p : Past). p.history) (sym e)) all

  -- ---- the frames

  module _ (ss : List FrameSeatView) (turns : map turn_of ss ≡ hub.frames) where
    pub turns_inside : map turn_of ss ≡ frames
    turns_inside = turns ∙ ap (λ (h : HubView). h.frames) (sym hub_is)

    module _ (fs : List Journaled) (ts : List TxView) (closed : AreSeatsClosed ss deliveries fs ts) where
      pub frames_left : AreFramesClosed ss b.deliveries fs
      frames_left = subst (λ (v : BrowserSeatView). AreFramesClosed ss v.deliveries fs) seat_is (frames_closed ss deliveries fs ts closed)

      pub senders_inside : All (λ (s : FrameSeatView). s.lane ≡ hub.lane) ss → All (λ (t : TxView). t.lane ≡ lane) ts
      senders_inside all =
          senders_lane lane ss deliveries fs ts closed (subst (λ (h : HubView). All (λ (s : FrameSeatView). s.lane ≡ h.lane) ss) (sym hub_is) all)

      seat_trees : map seat_tree ss ≡ forest.name
      seat_trees = named_trees ss deliveries fs ts forest.name closed (ap (map (λ (t : TurnId). t.name)) turns_inside ∙ whole.names)

      pub trees_left : map (λ (f : Journaled). f.tree) fs ≡ hub.forest.name
      trees_left = closed_trees ss deliveries fs ts closed ∙ (seat_trees ∙ ap (λ (h : HubView). h.forest.name) hub_is)

      -- ---- the packets

      module _ (kept waiting : List Packet) (kept_is : kept ≡ kept_packets ss) (w : AreWaiting rx.trees rx.got (option_to_list held) kept waiting ts) where
        waits : AreWaiting forest.name rx.got (option_to_list held) (kept_packets ss) waiting ts
        waits =
            subst (λ (z : List ℕ × List Packet). AreWaiting z.0 rx.got (option_to_list held) z.1 waiting ts) (λ i. ((own.trees ∙ ap (λ (t : TurnId). t.name) turned) i, kept_is i)) w

        next : HeldCanBeReceived forest.name seat.seen held
        next = subst (λ (t : TurnId). HeldCanBeReceived t.name seat.seen held) turned own.next

        pub fit_left : (past : Past) → past ≡ record { trees = forest.name; history = seat.seen } → All (PacketsFit past.history waiting) fs
        fit_left past e =
            subst (λ (h : List HEntry). All (PacketsFit h waiting) fs) (ap (λ (p : Past). p.history) (sym e))
            (all_fit forest.name seat.seen ss deliveries fs ts rx.got held waiting closed seat_trees whole.once own.got next waits)

        pub known_left : AllOf hub.forest.name waiting
        known_left =
            subst (λ (h : HubView). AllOf h.forest.name waiting) hub_is (all_known forest.name seat.seen ss deliveries fs ts rx.got held waiting closed seat_trees whole.once own.got next waits)

        pub waiting_left : IsWaiting b.held (kept_packets ss) waiting
        waiting_left = record { left = w.left; all = w.all ∙ λ i. (option_to_list (seat_is i).held ++ w.left) ++ kept_is i }
