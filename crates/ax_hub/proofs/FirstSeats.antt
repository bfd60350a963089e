-- What is true of a new hub and of its seats.
use Rattle.std.proofs.Common.{◌≡◌, ℕ, suc, ◌+◌, add-one, arith, List, [], ◌∷◌, ◌++◌, map, All, None, sym, refl, ap, ◌∙◌, subst}
use Rattle.ax_trees.specs.Lists.{NoneTwice}
use Rattle.ax_tree.specs.declared.packet.JEntry.{JEntry}
use Rattle.ax_tree.specs.declared.packet.HEntry.{HEntry}
use Rattle.ax_tree.specs.declared.packet.Packet.{Packet}
use Rattle.ax_tree.specs.Packets.{Fits}
use Rattle.ax_laws.proofs.GoodPackets.{fits_new}
use Rattle.ax_turn.specs.Ids.{TurnId}
use Rattle.ax_turn.specs.Seats.{SeatView}
use Rattle.ax_lane.specs.Ends.{LaneId, TxView, RxView, new_sender}
use Rattle.ax_stays.specs.Received.{received}
use Rattle.ax_hub.specs.Hubs.{HubView, IsFrameSeatOf, IsBrowserSeatOf, IsReaderSeatOf, IsHubWhole}
use Rattle.ax_stays.specs.Makers.{new_seat, IsSeatFor}
use Rattle.ax_hub.specs.Opening.{new_frame_seat, new_browser_seat, new_reader_seat, AreNewFrames, AreNewReaders}
use Rattle.ax_hub.specs.Seats.{FrameSeatView, BrowserSeatView, ReaderSeatView, frame_seat_view, browser_seat_view, reader_seat_view, IsFrameSeatWhole, IsBrowserSeatWhole}
use Rattle.ax_hub.proofs.Opened.{delivers_new, frames_makers, frames_names, readers_more, readers_turn, seats_of_hub, turns_new}

stands_new : {E : Type 0} (turn : TurnId) (n : ℕ) (seat : SeatView E) → seat ≡ new_seat turn n (n + 1) → IsSeatFor n seat
stands_new turn n seat e = record { idle = ap (λ v. v.inside) e; low = ap (λ v. v.low) e; high = ap (λ v. v.high) e }

-- ---- a frame's seat

module _ (turn : TurnId) (at tree : ℕ) (seat : SeatView JEntry) (tx : TxView) (is : seat ≡ new_seat turn 0 1) (sends : tx ≡ new_sender tx.lane tree) where
  pub frame_seat_new : turn.name ≡ tree ∷ [] → IsFrameSeatWhole seat tx None
  frame_seat_new named = record {
    stands = stands_new turn 0 seat is;
    name = ap (λ v. v.turn.name) is ∙ (named ∙ ap (λ (t : ℕ). t ∷ []) (sym (ap (λ (x : TxView). x.tree) sends)));
    fits = subst (λ (z : List JEntry × List Packet). Fits tx.tree z.0 z.1) (λ i. (ap (λ v. v.seen) (sym is) i, (sym (ap (λ (x : TxView). x.sent ++ []) sends)) i)) (fits_new tx.tree);
  }

  pub frame_view_new : frame_seat_view at seat tx None ≡ new_frame_seat tx.lane at tree turn
  frame_view_new = λ i. record { at = at; turn = (is i).turn; lane = tx.lane; tree = (sends i).tree; seen = (is i).seen; sent = (sends i).sent; kept = None }

-- ---- the browser's seat

module _ (hub : HubView) (trees : List ℕ) (seat : SeatView HEntry) (rx : RxView) (deliveries : List (SeatView JEntry)) (named : hub.forest.name ≡ trees) (is : seat ≡ new_seat hub.forest 0 1)
    (takes : rx ≡ record { lane = hub.lane; got = []; trees = trees; lulls = 0 }) (delivers : deliveries ≡ map (λ (turn : TurnId). new_seat turn 1 2) hub.frames) where
  pub browser_seat_new : IsBrowserSeatWhole seat rx None deliveries
  browser_seat_new = record {
    stands = stands_new hub.forest 0 seat is;
    trees = ap (λ (r : RxView). r.trees) takes ∙ (sym named ∙ ap (λ v. v.turn.name) (sym is));
    got = ap (λ (r : RxView). r.got) takes ∙ ap (λ (v : SeatView HEntry). received v.seen ++ []) (sym is);
    next = tt;
    delivers = delivers_new hub.frames deliveries delivers;
  }

  pub browser_view_new : browser_seat_view seat rx None deliveries ≡ new_browser_seat hub
  browser_view_new = λ i. record { turn = (is i).turn; lane = (takes i).lane; seen = (is i).seen; held = None; lulls = (takes i).lulls; deliveries = delivers i }

pub browser_of_hub : (hub : HubView) (s : BrowserSeatView) → s ≡ new_browser_seat hub → IsBrowserSeatOf hub s
browser_of_hub hub s e = subst (IsBrowserSeatOf hub) (sym e) (record { turn = refl; lane = refl; frames = turns_new hub.frames })

-- ---- a reader's seat

pub reader_seat_new : (turn : TurnId) (n : ℕ) (seat : SeatView HEntry) → seat ≡ new_seat turn n (n + 1) → IsSeatFor n seat
reader_seat_new turn n seat e = stands_new turn n seat e

pub reader_view_new : (turn : TurnId) (n : ℕ) (seat : SeatView HEntry) → seat ≡ new_seat turn n (n + 1) → reader_seat_view n seat ≡ new_reader_seat turn n
reader_view_new turn n seat e = λ i. record { turn = (e i).turn; number = n; seen = (e i).seen; enters = (e i).enters }

-- ---- the hub

pub hub_new : (lane : LaneId) (trees : List ℕ) (turns : List TurnId) (seats : List FrameSeatView) (forest : TurnId) (places : List ℕ) → AreNewFrames lane 0 trees turns seats → forest.name ≡ trees → NoneTwice trees → places ≡ trees → IsHubWhole turns forest places
hub_new lane trees turns seats forest places new named once placed = record {
  makers = frames_makers lane 0 trees turns seats new;
  names = frames_names lane 0 trees turns seats new ∙ ap (map (λ (t : ℕ). t ∷ [])) (sym named);
  once = subst NoneTwice (sym named) once;
  placed = placed ∙ sym named;
}

pub frames_of_hub : (hub : HubView) (trees : List ℕ) (seats : List FrameSeatView) → AreNewFrames hub.lane 0 trees hub.frames seats → All (IsFrameSeatOf hub) seats
frames_of_hub hub trees seats new = λ k d l. seats_of_hub hub trees seats new k d l

pub readers_of_hub : (hub : HubView) (count : ℕ) (seats : List ReaderSeatView) → AreNewReaders hub.forest 1 count seats → All (IsReaderSeatOf hub) seats
readers_of_hub hub count seats new = λ k d l. readers_turn hub.forest 1 count seats new k d l

-- the next reader's seat is cut off at its number
pub reader_next : (turn : TurnId) (readers at : ℕ) (seats after : List ReaderSeatView) (rest kept later seat dest : SeatView HEntry) → rest ≡ new_seat turn (at + 1) (readers + 1) → kept ≡ record rest { high = (at + 1) + 1 }
    → later ≡ record rest { low = (at + 1) + 1; enters = 0 } → seat ≡ kept → dest ≡ later → after ≡ seats ++ reader_seat_view (at + 1) seat ∷ [] → AreNewReaders turn 1 at seats
    → AreNewReaders turn 1 (at + 1) after × (dest ≡ new_seat turn ((at + 1) + 1) (readers + 1))
reader_next turn readers at seats after rest kept later seat dest is cut given own follows more so_far =
    let mine : seat ≡ new_seat turn (at + 1) ((at + 1) + 1) = own ∙ (cut ∙ ap (λ (v : SeatView HEntry). record v { high = (at + 1) + 1 }) is) in
    let number : at + 1 ≡ 1 + at = omega arith in (
      subst (λ (n : ℕ). AreNewReaders turn 1 n after) (sym (add-one at))
          (subst (AreNewReaders turn 1 (suc at)) (sym more)
          (readers_more turn 1 at seats (reader_seat_view (at + 1) seat) so_far (reader_view_new turn (at + 1) seat mine ∙ ap (new_reader_seat turn) number))),
      follows ∙ (given ∙ ap (λ (v : SeatView HEntry). record v { low = (at + 1) + 1; enters = 0 }) is),
    )
