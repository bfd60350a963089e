-- What is left where all seats of a hub have come back.
use Rattle.std.proofs.Common.{◌≡◌, ℕ, zero, suc, ◌==◌, true, false, List, [], ◌∷◌, ◌++◌, length, map, reverse, slice_get, append-nil, append_assoc, Option, Some, None, option_to_list, Result, Ok, Err, OnOk, nat_lt, if◌then◌else◌, All, sym, refl, ap, ◌∙◌, subst, arith, eq-eqb}
use Rattle.std.proofs.lemmas.List.{reverse-reverse}
use Rattle.std.proofs.lemmas.List.Elements.{All-cons, All-nil}
use Rattle.ax_trees.specs.Lists.{contains, NoneTwice}
use Rattle.ax_trees.proofs.Trees.{by_go}
use Rattle.ax_tree.specs.declared.packet.JEntry.{JEntry}
use Rattle.ax_tree.specs.declared.packet.HEntry.{HEntry}
use Rattle.ax_tree.specs.declared.packet.Packet.{Packet}
use Rattle.ax_tree.specs.Packets.{Fits, IsGood}
use Rattle.ax_turn.specs.Ids.{TurnId}
use Rattle.ax_turn.specs.Makers.{GrowsByOthers}
use Rattle.ax_turn.specs.Seats.{SeatView}
use Rattle.ax_lane.specs.Ends.{LaneId, TxView}
use Rattle.ax_lane.specs.Packets.{of_tree, AllOf}
use Rattle.ax_lane.proofs.Lists.{of_tree-append, of_tree-own, of_tree-other, AllOf-append}
use Rattle.ax_rules.specs.Histories.{got}
use Rattle.ax_frame.specs.Frames.{Journaled}
use Rattle.ax_stays.specs.declared.parcel.Parcel.{Parcel}
use Rattle.ax_hub.specs.BrowserCalls.{HeldCanBeReceived}
use Rattle.ax_stays.specs.Received.{received}
use Rattle.ax_hub.specs.Closing.{turn_of, kept_packets, AreFramesClosed, IsSeatClosed, AreSeatsClosed, IsMoreClosed, AreWaiting, PacketsFit}
use Rattle.ax_stays.specs.FrameCalls.{packets_in}
use Rattle.ax_stays.specs.Makers.{maker_of, IsSeatFor}
use Rattle.ax_hub.specs.Seats.{FrameSeatView, frame_seat_view, IsFrameSeatWhole}
use Rattle.ax_stays.proofs.Histories.{got_received, includes}
use Rattle.ax_stays.proofs.Journals.{fits_others, same_tree}
use Rattle.ax_hub.proofs.ListLemmas.{slice_at_end, reverse_popped, first_same, rest_same}

abbrev pub told_turn : SeatView JEntry → TurnId
told_turn d = d.turn

abbrev pub seat_tree : FrameSeatView → ℕ
seat_tree s = s.tree

-- ---- frame by frame

kept_push : (ss : List FrameSeatView) (s : FrameSeatView) → kept_packets (ss ++ s ∷ []) ≡ kept_packets ss ++ packets_in s.kept
kept_push [] s = append-nil (packets_in s.kept)
kept_push (x ∷ ss) s = ap (λ l. packets_in x.kept ++ l) (kept_push ss s) ∙ sym (append_assoc (packets_in x.kept) (kept_packets ss) (packets_in s.kept))

pub closed_more : (ss : List FrameSeatView) (ds : List (SeatView JEntry)) (fs : List Journaled) (ts : List TxView) (s : FrameSeatView) (d : SeatView JEntry) (f : Journaled) (t : TxView)
    → AreSeatsClosed ss ds fs ts → IsSeatClosed s d f t → AreSeatsClosed (ss ++ s ∷ []) (ds ++ d ∷ []) (fs ++ f ∷ []) (ts ++ t ∷ [])
closed_more [] [] [] [] s d f t h k = (k, tt)
closed_more (x ∷ ss) (y ∷ ds) (z ∷ fs) (w ∷ ts) s d f t h k = (h.0, closed_more ss ds fs ts s d f t h.1 k)
closed_more ss ds fs ts s d f t h k = absurd h

-- the seats that are closed so far, and those that are left, from the back of these lists
pub record ClosedSoFar (all : List FrameSeatView) (all_told : List (SeatView JEntry)) (turns : List TurnId) (seats : List FrameSeatView) (deliveries : List (SeatView JEntry)) (frames : List Journaled) (senders : List TxView) (kept : List Packet) : Type 0 where
  pub done : List FrameSeatView
  pub told : List (SeatView JEntry)
  pub seats_are : all ≡ done ++ reverse seats
  pub told_are : all_told ≡ told ++ reverse deliveries
  pub closed : AreSeatsClosed done told frames senders
  pub kept_are : kept ≡ kept_packets done
  pub turned : map turn_of (reverse seats) ≡ reverse turns
  pub told_turned : map told_turn (reverse deliveries) ≡ reverse turns
  pub makers : (at : ℕ) (turn : TurnId) → slice_get (reverse turns) at ≡ Some turn → turn.makers ≡ 2
  pub delivers : (at : ℕ) (d : SeatView JEntry) → slice_get (reverse deliveries) at ≡ Some d → IsSeatFor 1 d

first_closed : (all : List FrameSeatView) (all_told : List (SeatView JEntry)) (turns0 turns : List TurnId) (seats : List FrameSeatView) (deliveries : List (SeatView JEntry)) → map turn_of all ≡ turns0 → map told_turn all_told ≡ turns0
    → ((at : ℕ) (turn : TurnId) → slice_get turns0 at ≡ Some turn → turn.makers ≡ 2) → ((at : ℕ) (d : SeatView JEntry) → slice_get all_told at ≡ Some d → IsSeatFor 1 d)
    → turns ≡ reverse turns0 → seats ≡ reverse all → deliveries ≡ reverse all_told → ClosedSoFar all all_told turns seats deliveries [] [] []
first_closed all all_told turns0 turns seats deliveries of told makers delivers t s d =
    let ts : reverse turns ≡ turns0 = ap reverse t ∙ reverse-reverse turns0 in
    let ss : reverse seats ≡ all = ap reverse s ∙ reverse-reverse all in
    let ds : reverse deliveries ≡ all_told = ap reverse d ∙ reverse-reverse all_told in
    record {
      done = [];
      told = [];
      seats_are = sym ss;
      told_are = sym ds;
      closed = tt;
      kept_are = refl;
      turned = ap (map turn_of) ss ∙ (of ∙ sym ts);
      told_turned = ap (map told_turn) ds ∙ (told ∙ sym ts);
      makers = λ at turn h. makers at turn (ap (λ l. slice_get l at) (sym ts) ∙ h);
      delivers = λ at e h. delivers at e (ap (λ l. slice_get l at) (sym ds) ∙ h);
    }

pub none_closed : (all : List FrameSeatView) (all_told : List (SeatView JEntry)) (turns0 turns : List TurnId) (seats : List FrameSeatView) (deliveries : List (SeatView JEntry)) (frames : List Journaled) (senders : List TxView) (kept : List Packet)
    → map turn_of all ≡ turns0 → map told_turn all_told ≡ turns0 → ((at : ℕ) (turn : TurnId) → slice_get turns0 at ≡ Some turn → turn.makers ≡ 2) → ((at : ℕ) (d : SeatView JEntry) → slice_get all_told at ≡ Some d → IsSeatFor 1 d)
    → turns ≡ reverse turns0 → seats ≡ reverse all → deliveries ≡ reverse all_told → frames ≡ [] → senders ≡ [] → kept ≡ [] → ClosedSoFar all all_told turns seats deliveries frames senders kept
none_closed all all_told turns0 turns seats deliveries frames senders kept of told makers delivers t s d f x k =
    subst (λ (z : List Journaled × List TxView × List Packet). ClosedSoFar all all_told turns seats deliveries z.0 z.1 z.2) (λ i. (sym f i, sym x i, sym k i))
    (first_closed all all_told turns0 turns seats deliveries of told makers delivers t s d)

-- a turn, a seat and a delivering seat were popped
module _ (all : List FrameSeatView) (all_told : List (SeatView JEntry)) (turns turns' : List TurnId) (seats seats' : List FrameSeatView) (deliveries deliveries' : List (SeatView JEntry)) (frames : List Journaled)
    (senders : List TxView) (kept : List Packet) (so_far : ClosedSoFar all all_told turns seats deliveries frames senders kept) (turn : TurnId) (popped : turns ≡ turns' ++ turn ∷ []) where
  first_turn : reverse turns ≡ turn ∷ reverse turns'
  first_turn = reverse_popped turns turns' turn popped

  pub popped_makers : turn.makers ≡ 2
  popped_makers = so_far.makers zero turn (ap (λ l. slice_get l zero) first_turn)

  -- there is a seat, and a delivering seat
  pub some_seat : seats ≡ [] → ⊥
  some_seat e = let bad : [] ≡ turn ∷ reverse turns' = ap (λ l. map turn_of (reverse l)) (sym e) ∙ (so_far.turned ∙ first_turn) in cc

  pub some_told : deliveries ≡ [] → ⊥
  some_told e = let bad : [] ≡ turn ∷ reverse turns' = ap (λ l. map told_turn (reverse l)) (sym e) ∙ (so_far.told_turned ∙ first_turn) in cc

  module _ (s : FrameSeatView) (d : SeatView JEntry) (seat_popped : seats ≡ seats' ++ s ∷ []) (told_popped : deliveries ≡ deliveries' ++ d ∷ []) where
    first_seat : reverse seats ≡ s ∷ reverse seats'
    first_seat = reverse_popped seats seats' s seat_popped

    first_told : reverse deliveries ≡ d ∷ reverse deliveries'
    first_told = reverse_popped deliveries deliveries' d told_popped

    both : turn_of s ∷ map turn_of (reverse seats') ≡ turn ∷ reverse turns'
    both = ap (map turn_of) (sym first_seat) ∙ (so_far.turned ∙ first_turn)

    both_told : told_turn d ∷ map told_turn (reverse deliveries') ≡ turn ∷ reverse turns'
    both_told = ap (map told_turn) (sym first_told) ∙ (so_far.told_turned ∙ first_turn)

    pub popped_turn : s.turn ≡ turn
    popped_turn = first_same (turn_of s) turn (map turn_of (reverse seats')) (reverse turns') both

    pub popped_told : d.turn ≡ turn
    popped_told = first_same (told_turn d) turn (map told_turn (reverse deliveries')) (reverse turns') both_told

    pub popped_delivers : IsSeatFor 1 d
    popped_delivers = so_far.delivers zero d (ap (λ l. slice_get l zero) first_told)

    pub closed_next : (more : List Journaled) (after : List TxView) (with_kept : List Packet) → IsMoreClosed s d frames more senders after → with_kept ≡ kept ++ packets_in s.kept → ClosedSoFar all all_told turns' seats' deliveries' more after with_kept
    closed_next more after with_kept m k = record {
      done = so_far.done ++ s ∷ [];
      told = so_far.told ++ d ∷ [];
      seats_are = so_far.seats_are ∙ (ap (λ l. so_far.done ++ l) first_seat ∙ sym (append_assoc so_far.done (s ∷ []) (reverse seats')));
      told_are = so_far.told_are ∙ (ap (λ l. so_far.told ++ l) first_told ∙ sym (append_assoc so_far.told (d ∷ []) (reverse deliveries')));
      closed = subst (λ (z : List Journaled × List TxView). AreSeatsClosed (so_far.done ++ s ∷ []) (so_far.told ++ d ∷ []) z.0 z.1) (λ i. (sym m.frames i, sym m.senders i))
          (closed_more so_far.done so_far.told frames senders s d m.frame m.sender so_far.closed m.closed);
      kept_are = k ∙ (ap (λ l. l ++ packets_in s.kept) so_far.kept_are
          ∙ sym (kept_push so_far.done s));
      turned = rest_same (turn_of s) turn (map turn_of (reverse seats')) (reverse turns') both;
      told_turned = rest_same (told_turn d) turn (map told_turn (reverse deliveries')) (reverse turns') both_told;
      makers = λ at t h. so_far.makers (suc at) t (ap (λ l. slice_get l (suc at)) first_turn ∙ h);
      delivers = λ at e h. so_far.delivers (suc at) e (ap (λ l. slice_get l (suc at)) first_told ∙ h);
    }

no_more : {A B : Type 0} (f : A → B) (xs : List A) → map f xs ≡ [] → xs ≡ []
no_more f [] e = refl
no_more f (x ∷ xs) e = absurd (let bad : ⊥ = cc in bad)

pub all_closed : (all : List FrameSeatView) (all_told : List (SeatView JEntry)) (turns : List TurnId) (seats : List FrameSeatView) (deliveries : List (SeatView JEntry)) (frames : List Journaled) (senders : List TxView) (kept : List Packet)
    → ClosedSoFar all all_told turns seats deliveries frames senders kept → turns ≡ [] → AreSeatsClosed all all_told frames senders × (kept ≡ kept_packets all)
all_closed all all_told turns seats deliveries frames senders kept so_far none =
    let ss : all ≡ so_far.done = so_far.seats_are ∙ (ap (λ l. so_far.done ++ l) (no_more turn_of (reverse seats) (so_far.turned ∙ ap reverse none)) ∙ append-nil so_far.done) in
    let ds : all_told ≡ so_far.told = so_far.told_are ∙ (ap (λ l. so_far.told ++ l) (no_more told_turn (reverse deliveries) (so_far.told_turned ∙ ap reverse none)) ∙ append-nil so_far.told) in
    (subst (λ (z : List FrameSeatView × List (SeatView JEntry)). AreSeatsClosed z.0 z.1 frames senders) (λ i. (sym ss i, sym ds i)) so_far.closed, so_far.kept_are ∙ ap kept_packets (sym ss))

-- ---- what the closed seats say

pub frames_closed : (ss : List FrameSeatView) (ds : List (SeatView JEntry)) (fs : List Journaled) (ts : List TxView) → AreSeatsClosed ss ds fs ts → AreFramesClosed ss ds fs
frames_closed [] [] [] [] h = tt
frames_closed (s ∷ ss) (d ∷ ds) (f ∷ fs) (t ∷ ts) h = (h.0.closed, frames_closed ss ds fs ts h.1)
frames_closed ss ds fs ts h = absurd h

pub closed_trees : (ss : List FrameSeatView) (ds : List (SeatView JEntry)) (fs : List Journaled) (ts : List TxView) → AreSeatsClosed ss ds fs ts → map (λ (f : Journaled). f.tree) fs ≡ map seat_tree ss
closed_trees [] [] [] [] h = refl
closed_trees (s ∷ ss) (d ∷ ds) (f ∷ fs) (t ∷ ts) h = λ i. h.0.closed.tree i ∷ closed_trees ss ds fs ts h.1 i
closed_trees ss ds fs ts h = absurd h

head_same : (x y : ℕ) → x ∷ [] ≡ y ∷ [] → x ≡ y
head_same x y e = cc

pub named_trees : (ss : List FrameSeatView) (ds : List (SeatView JEntry)) (fs : List Journaled) (ts : List TxView) (trees : List ℕ) → AreSeatsClosed ss ds fs ts
    → map (λ (turn : TurnId). turn.name) (map turn_of ss) ≡ map (λ (t : ℕ). t ∷ []) trees → map seat_tree ss ≡ trees
named_trees [] [] [] [] [] h e = refl
named_trees [] [] [] [] (u ∷ trees) h e = absurd (let bad : ⊥ = cc in bad)
named_trees (s ∷ ss) (d ∷ ds) (f ∷ fs) (t ∷ ts) [] h e = absurd (let bad : ⊥ = cc in bad)
named_trees (s ∷ ss) (d ∷ ds) (f ∷ fs) (t ∷ ts) (u ∷ trees) h e =
    let first : s.tree ≡ u = head_same s.tree u (sym h.0.name ∙ first_same s.turn.name (u ∷ []) (map (λ (turn : TurnId). turn.name) (map turn_of ss)) (map (λ (t : ℕ). t ∷ []) trees) e) in
    let rest = named_trees ss ds fs ts trees h.1 (rest_same s.turn.name (u ∷ []) (map (λ (turn : TurnId). turn.name) (map turn_of ss)) (map (λ (t : ℕ). t ∷ []) trees) e) in
    λ i. first i ∷ rest i
named_trees ss ds fs ts trees h e = absurd h

head_of_all : {A : Type 0} (P : A → Type 0) (x : A) (xs : List A) → All P (x ∷ xs) → P x
head_of_all P x xs h = h zero x (omega arith)

tail_of_all : {A : Type 0} (P : A → Type 0) (x : A) (xs : List A) → All P (x ∷ xs) → All P xs
tail_of_all P x xs h = λ k d l. h (suc k) d (omega arith)

pub senders_lane : (lane : LaneId) (ss : List FrameSeatView) (ds : List (SeatView JEntry)) (fs : List Journaled) (ts : List TxView) → AreSeatsClosed ss ds fs ts
    → All (λ (s : FrameSeatView). s.lane ≡ lane) ss → All (λ (t : TxView). t.lane ≡ lane) ts
senders_lane lane [] [] [] [] h a = All-nil (λ (t : TxView). t.lane ≡ lane)
senders_lane lane (s ∷ ss) (d ∷ ds) (f ∷ fs) (t ∷ ts) h a =
    All-cons (λ (t : TxView). t.lane ≡ lane) t ts (h.0.lane ∙ head_of_all (λ (s : FrameSeatView). s.lane ≡ lane) s ss a) (senders_lane lane ss ds fs ts h.1 (tail_of_all (λ (s : FrameSeatView). s.lane ≡ lane) s ss a))
senders_lane lane ss ds fs ts h a = absurd h

-- ---- kept packets

-- the packet that a seat keeps is of its tree
last_tree : (t : ℕ) (packets : List Packet) (p : Packet) → IsGood t (packets ++ p ∷ []) → p.tree ≡ t
last_tree t packets p good = (good.at (length packets) p (slice_at_end packets p)).of_tree

own_packet : (s : FrameSeatView) (kept : Option Parcel) (journal : List JEntry) → Fits s.tree journal (s.sent ++ packets_in kept) → of_tree s.tree (packets_in kept) ≡ packets_in kept
own_packet s None journal fit = refl
own_packet s (Some p) journal fit = of_tree-own p.packet s.tree (last_tree s.tree s.sent p.packet fit.good)

other_packet : (s : FrameSeatView) (kept : Option Parcel) (journal : List JEntry) (t : ℕ) → Fits s.tree journal (s.sent ++ packets_in kept) → (s.tree ≡ t → ⊥) → of_tree t (packets_in kept) ≡ []
other_packet s None journal t fit ne = refl
other_packet s (Some p) journal t fit ne = of_tree-other p.packet t (λ e. ne (sym (last_tree s.tree s.sent p.packet fit.good) ∙ e))

not_first : (x t : ℕ) (xs : List ℕ) → contains (x ∷ xs) t ≡ false → (x ≡ t → ⊥) × (contains xs t ≡ false)
not_first x t xs h =
    by_go (x == t)
    (λ q. absurd (let all : contains (x ∷ xs) t ≡ true = rw q refl in let bad : false ≡ true = sym h ∙ all in cc))
    (λ q. ((λ e. let yes : (x == t) ≡ true = eq-eqb x t e in let bad : false ≡ true = sym q ∙ yes in cc), (let same : contains (x ∷ xs) t ≡ contains xs t = rw q refl in sym same ∙ h)))

-- none of a strange tree
none_kept : (ss : List FrameSeatView) (ds : List (SeatView JEntry)) (fs : List Journaled) (ts : List TxView) (t : ℕ) → AreSeatsClosed ss ds fs ts → contains (map seat_tree ss) t ≡ false → of_tree t (kept_packets ss) ≡ []
none_kept [] [] [] [] t h strange = refl
none_kept (s ∷ ss) (d ∷ ds) (f ∷ fs) (x ∷ ts) t h strange =
    let n = not_first s.tree t (map seat_tree ss) strange in
    of_tree-append t (packets_in s.kept) (kept_packets ss) ∙ (ap (λ l. l ++ of_tree t (kept_packets ss)) (other_packet s s.kept f.journal t h.0.fits n.0) ∙ none_kept ss ds fs ts t h.1 n.1)
none_kept ss ds fs ts t h strange = absurd h

-- of each seat's tree the kept packets are what the seat keeps
abbrev OwnKept : List Packet → List FrameSeatView → Type 0
OwnKept kept [] = Unit {0}
OwnKept kept (s ∷ ss) = (of_tree s.tree kept ≡ packets_in s.kept) × OwnKept kept ss

-- a packet of another tree before them
own_still : (s : FrameSeatView) (journal : List JEntry) (kept : List Packet) (ss : List FrameSeatView) → Fits s.tree journal (s.sent ++ packets_in s.kept) → contains (map seat_tree ss) s.tree ≡ false → OwnKept kept ss → OwnKept (packets_in s.kept ++ kept) ss
own_still s journal kept [] fit strange h = tt
own_still s journal kept (u ∷ ss) fit strange h =
    let n = not_first u.tree s.tree (map seat_tree ss) strange in
    (of_tree-append u.tree (packets_in s.kept) kept ∙ (ap (λ l. l ++ of_tree u.tree kept) (other_packet s s.kept journal u.tree fit (λ e. n.0 (sym e))) ∙ h.0), own_still s journal kept ss fit n.1 h.1)

own_kept : (ss : List FrameSeatView) (ds : List (SeatView JEntry)) (fs : List Journaled) (ts : List TxView) → AreSeatsClosed ss ds fs ts → NoneTwice (map seat_tree ss) → OwnKept (kept_packets ss) ss
own_kept [] [] [] [] h once = tt
own_kept (s ∷ ss) (d ∷ ds) (f ∷ fs) (t ∷ ts) h once = (
  of_tree-append s.tree (packets_in s.kept) (kept_packets ss)
      ∙ (ap (λ l. of_tree s.tree (packets_in s.kept) ++ l) (none_kept ss ds fs ts s.tree h.1 once.0) ∙ (append-nil (of_tree s.tree (packets_in s.kept)) ∙ own_packet s s.kept f.journal h.0.fits)),
  own_still s f.journal (kept_packets ss) ss h.0.fits once.0 (own_kept ss ds fs ts h.1 once.1),
)
own_kept ss ds fs ts h once = absurd h

-- they are of the seats' trees
known_kept : (trees : List ℕ) (ss : List FrameSeatView) (ds : List (SeatView JEntry)) (fs : List Journaled) (ts : List TxView) → AreSeatsClosed ss ds fs ts → ((t : ℕ) → contains (map seat_tree ss) t ≡ true → contains trees t ≡ true) → AllOf trees (kept_packets ss)
known_kept trees [] [] [] [] h all = tt
known_kept trees (s ∷ ss) (d ∷ ds) (f ∷ fs) (t ∷ ts) h all =
    AllOf-append trees (packets_in s.kept) (kept_packets ss) (own s.kept h.0.fits)
    (known_kept trees ss ds fs ts h.1 (λ u k. all u (by_go (s.tree == u) (λ q. rw q refl) (λ q. rw q k))))
  where
    own : (kept : Option Parcel) → Fits s.tree f.journal (s.sent ++ packets_in kept) → AllOf trees (packets_in kept)
    own None fit = tt
    own (Some p) fit = (includes trees p.packet.tree (all p.packet.tree (let e : (s.tree == p.packet.tree) ≡ true = eq-eqb s.tree p.packet.tree (sym (last_tree s.tree s.sent p.packet fit.good)) in rw e refl)), tt)
known_kept trees ss ds fs ts h all = absurd h

-- ---- what waits fits

module _ (h : List HEntry) (got_by held left kept waiting : List Packet) (taken : got_by ≡ received h ++ held) (all : waiting ≡ (held ++ left) ++ kept) where
  -- of a seat's tree
  joined : (s : FrameSeatView) (sent : List Packet) → of_tree s.tree (got_by ++ left) ≡ sent → of_tree s.tree kept ≡ packets_in s.kept → got h s.tree ++ of_tree s.tree waiting ≡ sent ++ packets_in s.kept
  joined s sent whole own =
      let t = s.tree in
      ap (λ l. l ++ of_tree t waiting) (got_received h t)
      ∙ (ap (λ l. of_tree t (received h) ++ l) (ap (of_tree t) all ∙ (of_tree-append t (held ++ left) kept ∙ ap (λ l. of_tree t (held ++ left) ++ l) own))
      ∙ (sym (append_assoc (of_tree t (received h)) (of_tree t (held ++ left)) (packets_in s.kept))
      ∙ ap (λ l. l ++ packets_in s.kept) (sym (of_tree-append t (received h) (held ++ left)) ∙ (ap (of_tree t) (sym (append_assoc (received h) held left) ∙ ap (λ l. l ++ left) (sym taken)) ∙ whole))))

  each_fits : (ss : List FrameSeatView) (ds : List (SeatView JEntry)) (fs : List Journaled) (ts : List TxView) → AreSeatsClosed ss ds fs ts → OwnKept kept ss → All (λ (t : TxView). of_tree t.tree (got_by ++ left) ≡ t.sent) ts → All (PacketsFit h waiting) fs
  each_fits [] [] [] [] c own whole = All-nil (PacketsFit h waiting)
  each_fits (s ∷ ss) (d ∷ ds) (f ∷ fs) (t ∷ ts) c own whole =
      let sent : of_tree s.tree (got_by ++ left) ≡ s.sent = ap (λ (u : ℕ). of_tree u (got_by ++ left)) (sym c.0.tree) ∙ (head_of_all (λ (t : TxView). of_tree t.tree (got_by ++ left) ≡ t.sent) t ts whole ∙ c.0.sent) in
      All-cons (PacketsFit h waiting) f fs
      (subst (λ (u : ℕ). Fits u f.journal (got h u ++ of_tree u waiting)) (sym c.0.closed.tree) (subst (Fits s.tree f.journal) (sym (joined s s.sent sent own.0)) c.0.fits))
      (each_fits ss ds fs ts c.1 own.1 (tail_of_all (λ (t : TxView). of_tree t.tree (got_by ++ left) ≡ t.sent) t ts whole))
  each_fits ss ds fs ts c own whole = absurd c

known_held : (trees : List ℕ) (h : List HEntry) (held : Option Packet) → HeldCanBeReceived trees h held → AllOf trees (option_to_list held)
known_held trees h None k = tt
known_held trees h (Some p) k = (includes trees p.tree k.known, tt)

-- all of it
module _ (trees : List ℕ) (h : List HEntry) (ss : List FrameSeatView) (ds : List (SeatView JEntry)) (fs : List Journaled) (ts : List TxView) (got_by : List Packet) (held : Option Packet) (waiting : List Packet)
    (closed : AreSeatsClosed ss ds fs ts) (same : map seat_tree ss ≡ trees) (once : NoneTwice trees) (taken : got_by ≡ received h ++ option_to_list held) (next : HeldCanBeReceived trees h held)
    (w : AreWaiting trees got_by (option_to_list held) (kept_packets ss) waiting ts) where
  pub all_fit : All (PacketsFit h waiting) fs
  all_fit =
      each_fits h got_by (option_to_list held) w.left (kept_packets ss) waiting taken w.all ss ds fs ts closed (own_kept ss ds fs ts closed (subst NoneTwice (sym same) once)) w.is_left.whole

  pub all_known : AllOf trees waiting
  all_known =
      subst (AllOf trees) (sym w.all)
      (AllOf-append trees (option_to_list held ++ w.left) (kept_packets ss) (AllOf-append trees (option_to_list held) w.left (known_held trees h held next) w.is_left.known)
      (known_kept trees ss ds fs ts closed (λ t k. subst (λ l. ◌≡◌ (contains l t) true) same k)))

-- ---- one seat that is closed

pub joined_high : (low high h : ℕ) → low ≡ 1 → high ≡ 2 → (if nat_lt low high then high else h) ≡ 2
joined_high low high h from to = ap (λ (z : ℕ × ℕ). if nat_lt z.0 z.1 then z.1 else h) (λ i. (from i, to i))

pub seat_closed : (s : FrameSeatView) (at : ℕ) (seat : SeatView JEntry) (tx : TxView) (kept : Option Parcel) (d : SeatView JEntry) (f : Journaled) (turn : TurnId) → frame_seat_view at seat tx kept ≡ s → IsFrameSeatWhole seat tx kept → seat.turn ≡ turn
    → f.tree ∷ [] ≡ turn.name → GrowsByOthers maker_of 0 1 seat.seen f.journal → GrowsByOthers maker_of 1 2 d.seen f.journal → IsSeatClosed s d f tx
seat_closed s at seat tx kept d f turn seat_is w of named own told =
    subst (λ (v : FrameSeatView). IsSeatClosed v d f tx) seat_is (record {
      closed = record { tree = same_tree turn.name tx.tree f.tree (ap (λ (t : TurnId). t.name) (sym of) ∙ w.name) named; own = own; told = told };
      name = w.name;
      fits = fits_others tx.tree seat.seen f.journal (tx.sent ++ packets_in kept) own w.fits;
      lane = refl;
      tree = refl;
      sent = refl;
    })

pub kept_of : (s : FrameSeatView) (at : ℕ) (seat : SeatView JEntry) (tx : TxView) (kept : Option Parcel) → frame_seat_view at seat tx kept ≡ s → packets_in kept ≡ packets_in s.kept
kept_of s at seat tx kept seat_is = ap (λ (v : FrameSeatView). packets_in v.kept) seat_is

pub whatever : {A E : Type 0} (r : Result A E) (P : Type 0) → P → OnOk r P
whatever (Ok a) P p = p
whatever (Err e) P p = tt
