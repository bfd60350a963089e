-- The seats of a new hub.
use Rattle.std.proofs.Common.{◌≡◌, ℕ, zero, suc, ◌+◌, ◌<◌, ◌≤◌, false, List, [], ◌∷◌, ◌++◌, length, get_or, map, take, drop, reverse, slice_get, Some, sym, refl, ap, ◌∙◌, subst, arith}
use Rattle.std.proofs.lemmas.List.{reverse-reverse, take_more}
use Rattle.ax_tree.specs.declared.packet.JEntry.{JEntry}
use Rattle.ax_turn.specs.Ids.{TurnId}
use Rattle.ax_turn.specs.Seats.{SeatView}
use Rattle.ax_lane.specs.Ends.{LaneId, TxView, new_sender}
use Rattle.ax_hub.specs.Hubs.{HubView, IsFrameSeatOf}
use Rattle.ax_stays.specs.Makers.{new_seat, IsSeatFor}
use Rattle.ax_hub.specs.Opening.{new_frame_seat, new_reader_seat, AreNewFrames, AreNewReaders, IsFrameAdded}
use Rattle.ax_hub.specs.Seats.{FrameSeatView, ReaderSeatView}
use Rattle.ax_hub.proofs.ListLemmas.{first_same, rest_same, reverse_popped}

-- ---- the first seats of a turn

module _ {E : Type 0} (turn : TurnId) (at high : ℕ) (seen : List E) (first kept given : SeatView E) (none : seen ≡ []) (is : first ≡ record { turn = turn; inside = false; seen = seen; low = 0; high = high; enters = 0 }) where
  -- what it keeps where its numbers are cut
  pub cut_kept : kept ≡ record first { high = at } → kept ≡ new_seat turn 0 at
  cut_kept e = e ∙ λ i. record { turn = (is i).turn; inside = (is i).inside; seen = (ap (λ v. v.seen) is ∙ none) i; low = (is i).low; high = at; enters = (is i).enters }

  -- and what is cut off
  pub cut_given : given ≡ record first { low = at; enters = 0 } → given ≡ new_seat turn at high
  cut_given e = e ∙ λ i. record { turn = (is i).turn; inside = (is i).inside; seen = (ap (λ v. v.seen) is ∙ none) i; low = at; high = (is i).high; enters = 0 }

-- ---- frames

module _ (lane : LaneId) where
  -- one frame more, at the end
  pub frames_more : (at : ℕ) (trees : List ℕ) (turns : List TurnId) (seats : List FrameSeatView) (t : ℕ) (turn : TurnId) (s : FrameSeatView) → AreNewFrames lane at trees turns seats
      → turn.makers ≡ 2 → turn.name ≡ t ∷ [] → s ≡ new_frame_seat lane (at + length trees) t turn → AreNewFrames lane at (trees ++ t ∷ []) (turns ++ turn ∷ []) (seats ++ s ∷ [])
  frames_more at [] [] [] t turn s h m n e = (m, n, e ∙ ap (λ k. new_frame_seat lane k t turn) (omega arith), tt)
  frames_more at [] [] (x ∷ seats) t turn s h m n e = absurd h
  frames_more at [] (u ∷ turns) seats t turn s h m n e = absurd h
  frames_more at (v ∷ trees) [] seats t turn s h m n e = absurd h
  frames_more at (v ∷ trees) (u ∷ turns) [] t turn s h m n e = absurd h
  frames_more at (v ∷ trees) (u ∷ turns) (x ∷ seats) t turn s h m n e =
      (h.0, h.1, h.2, frames_more (suc at) trees turns seats t turn s h.3 m n (e ∙ ap (λ k. new_frame_seat lane k t turn) (omega arith)))

  pub frames_count : (at : ℕ) (trees : List ℕ) (turns : List TurnId) (seats : List FrameSeatView) → AreNewFrames lane at trees turns seats → length seats ≡ length trees
  frames_count at [] [] [] h = refl
  frames_count at [] [] (x ∷ seats) h = absurd h
  frames_count at [] (u ∷ turns) seats h = absurd h
  frames_count at (v ∷ trees) [] seats h = absurd h
  frames_count at (v ∷ trees) (u ∷ turns) [] h = absurd h
  frames_count at (v ∷ trees) (u ∷ turns) (x ∷ seats) h = ap suc (frames_count (suc at) trees turns seats h.3)

  pub frames_makers : (at : ℕ) (trees : List ℕ) (turns : List TurnId) (seats : List FrameSeatView) → AreNewFrames lane at trees turns seats → (i : ℕ) (turn : TurnId) → slice_get turns i ≡ Some turn → turn.makers ≡ 2
  frames_makers at [] [] seats h i turn q = absurd (cc)
  frames_makers at [] (u ∷ turns) seats h i turn q = absurd h
  frames_makers at (v ∷ trees) [] seats h i turn q = absurd h
  frames_makers at (v ∷ trees) (u ∷ turns) [] h i turn q = absurd h
  frames_makers at (v ∷ trees) (u ∷ turns) (x ∷ seats) h zero turn q = let e : u ≡ turn = cc in ap (λ (w : TurnId). w.makers) (sym e) ∙ h.0
  frames_makers at (v ∷ trees) (u ∷ turns) (x ∷ seats) h (suc i) turn q = frames_makers (suc at) trees turns seats h.3 i turn q

  pub frames_names : (at : ℕ) (trees : List ℕ) (turns : List TurnId) (seats : List FrameSeatView) → AreNewFrames lane at trees turns seats → map (λ (turn : TurnId). turn.name) turns ≡ map (λ (t : ℕ). t ∷ []) trees
  frames_names at [] [] seats h = refl
  frames_names at [] (u ∷ turns) seats h = absurd h
  frames_names at (v ∷ trees) [] seats h = absurd h
  frames_names at (v ∷ trees) (u ∷ turns) [] h = absurd h
  frames_names at (v ∷ trees) (u ∷ turns) (x ∷ seats) h = λ i. h.1 i ∷ frames_names (suc at) trees turns seats h.3 i

  -- each seat is of the turn at its place
  pub seat_there : (at : ℕ) (trees : List ℕ) (turns : List TurnId) (seats : List FrameSeatView) → AreNewFrames lane at trees turns seats
      → (k : ℕ) (d : FrameSeatView) → k < length seats → (slice_get turns k ≡ Some (get_or seats k d).turn) × ((get_or seats k d).at ≡ at + k) × ((get_or seats k d).lane ≡ lane)
  seat_there at [] [] [] h k d l = absurd (omega arith)
  seat_there at [] [] (x ∷ seats) h k d l = absurd h
  seat_there at [] (u ∷ turns) seats h k d l = absurd h
  seat_there at (v ∷ trees) [] seats h k d l = absurd h
  seat_there at (v ∷ trees) (u ∷ turns) [] h k d l = absurd h
  seat_there at (v ∷ trees) (u ∷ turns) (x ∷ seats) h zero d l = (ap (λ (s : FrameSeatView). Some s.turn) (sym h.2), ap (λ (s : FrameSeatView). s.at) h.2 ∙ omega arith, ap (λ (s : FrameSeatView). s.lane) h.2)
  seat_there at (v ∷ trees) (u ∷ turns) (x ∷ seats) h (suc k) d l = let r = seat_there (suc at) trees turns seats h.3 k d (omega arith) in (r.0, r.1 ∙ omega arith, r.2)

drop_at : {A : Type 0} (xs : List A) (i : ℕ) (x : A) → i < length xs → x ≡ get_or xs i x → drop i xs ≡ x ∷ drop (i + 1) xs
drop_at [] i x l e = absurd (omega arith)
drop_at (y ∷ xs) zero x l e = ap (λ z. z ∷ xs) (sym e)
drop_at (y ∷ xs) (suc i) x l e = let s : suc (i + 1) ≡ suc i + 1 = omega arith in drop_at xs i x (omega arith) e ∙ ap (λ n. x ∷ drop n (y ∷ xs)) s

-- the frames of the trees so far, and the senders of those that are left, from the back of their list
pub record FramesSoFar (lane : LaneId) (trees : List ℕ) (i : ℕ) (turns : List TurnId) (seats : List FrameSeatView) (deliveries : List (SeatView JEntry)) (senders : List TxView) : Type 0 where
  pub frames : AreNewFrames lane 0 (take i trees) turns seats
  pub delivers : deliveries ≡ map (λ (turn : TurnId). new_seat turn 1 2) turns
  pub sends : reverse senders ≡ map (new_sender lane) (drop i trees)

pub no_frames : (lane : LaneId) (trees : List ℕ) (turns : List TurnId) (seats : List FrameSeatView) (deliveries : List (SeatView JEntry)) (senders all : List TxView)
    → turns ≡ [] → seats ≡ [] → deliveries ≡ [] → senders ≡ reverse all → all ≡ map (new_sender lane) trees → FramesSoFar lane trees 0 turns seats deliveries senders
no_frames lane trees turns seats deliveries senders all t s d r e = record {
  frames = subst (λ (z : List TurnId × List FrameSeatView). AreNewFrames lane 0 [] z.0 z.1) (λ i. (sym t i, sym s i)) tt;
  delivers = d ∙ ap (map (λ (turn : TurnId). new_seat turn 1 2)) (sym t);
  sends = ap reverse r ∙ (reverse-reverse all ∙ e);
}

map_push : (turns : List TurnId) (turn : TurnId) → map (λ (u : TurnId). new_seat {E = JEntry} u 1 2) (turns ++ turn ∷ []) ≡ map (λ (u : TurnId). new_seat u 1 2) turns ++ new_seat turn 1 2 ∷ []
map_push [] turn = refl
map_push (u ∷ turns) turn = ap (λ l. new_seat u 1 2 ∷ l) (map_push turns turn)

-- the next tree
module _ (lane : LaneId) (trees : List ℕ) (i t : ℕ) (turns : List TurnId) (seats : List FrameSeatView) (deliveries : List (SeatView JEntry)) (senders : List TxView) (below : i < length trees) (is : t ≡ get_or trees i t)
    (so_far : FramesSoFar lane trees i turns seats deliveries senders) where
  senders_are : reverse senders ≡ new_sender lane t ∷ map (new_sender lane) (drop (i + 1) trees)
  senders_are = so_far.sends ∙ ap (map (new_sender lane)) (drop_at trees i t below is)

  pub some_sender : senders ≡ [] → ⊥
  some_sender e = let bad : [] ≡ new_sender lane t ∷ map (new_sender lane) (drop (i + 1) trees) = ap reverse (sym e) ∙ senders_are in cc

  module _ (senders' : List TxView) (tx : TxView) (popped : senders ≡ senders' ++ tx ∷ []) where
    both_senders : tx ∷ reverse senders' ≡ new_sender lane t ∷ map (new_sender lane) (drop (i + 1) trees)
    both_senders = sym (reverse_popped senders senders' tx popped) ∙ senders_are

    sender_is : tx ≡ new_sender lane t
    sender_is = first_same tx (new_sender lane t) (reverse senders') (map (new_sender lane) (drop (i + 1) trees)) both_senders

    pub sender_new : tx ≡ new_sender tx.lane t
    sender_new = sender_is ∙ ap (λ (l : LaneId). new_sender l t) (sym (ap (λ (x : TxView). x.lane) sender_is))

    pub frames_next : (more : List TurnId) (after : List FrameSeatView) (told : List (SeatView JEntry)) → IsFrameAdded tx.lane t turns more seats after deliveries told → FramesSoFar lane trees (i + 1) more after told senders'
    frames_next more after told a =
        let own : tx.lane ≡ lane = ap (λ (x : TxView). x.lane) sender_is in
        let count : length seats ≡ 0 + length (take i trees) = frames_count lane 0 (take i trees) turns seats so_far.frames ∙ omega arith in
        record {
          frames = subst (λ (z : List ℕ × List TurnId × List FrameSeatView). AreNewFrames lane 0 z.0 z.1 z.2) (λ k. (sym (take_more trees i t below ∙ ap (λ u. take i trees ++ u ∷ []) (sym is)) k, sym a.turns k, sym a.seats k))
              (frames_more lane 0 (take i trees) turns seats t a.turn (new_frame_seat tx.lane (length seats) t a.turn) so_far.frames a.makers a.name (λ k. new_frame_seat (own k) (count k) t a.turn));
          delivers = a.deliveries ∙ (ap (λ l. l ++ new_seat a.turn 1 2 ∷ []) so_far.delivers ∙ (sym (map_push turns a.turn) ∙ ap (map (λ (u : TurnId). new_seat u 1 2)) (sym a.turns)));
          sends = rest_same tx (new_sender lane t) (reverse senders') (map (new_sender lane) (drop (i + 1) trees)) both_senders;
        }

take_whole : {A : Type 0} (xs : List A) (i : ℕ) → (i < length xs → ⊥) → take i xs ≡ xs
take_whole [] zero h = refl
take_whole [] (suc i) h = refl
take_whole (x ∷ xs) zero h = absurd (h (omega arith))
take_whole (x ∷ xs) (suc i) h = ap (λ l. x ∷ l) (take_whole xs i (λ l. h (omega arith)))

pub all_frames : (lane : LaneId) (trees : List ℕ) (i : ℕ) (turns : List TurnId) (seats : List FrameSeatView) (deliveries : List (SeatView JEntry)) (senders : List TxView) → length trees ≤ i → FramesSoFar lane trees i turns seats deliveries senders
    → AreNewFrames lane 0 trees turns seats
all_frames lane trees i turns seats deliveries senders end so_far = subst (λ l. AreNewFrames lane 0 l turns seats) (take_whole trees i (λ l. omega arith)) so_far.frames

pub seats_of_hub : (hub : HubView) (trees : List ℕ) (seats : List FrameSeatView) → AreNewFrames hub.lane 0 trees hub.frames seats → (k : ℕ) (d : FrameSeatView) → k < length seats → IsFrameSeatOf hub (get_or seats k d)
seats_of_hub hub trees seats h k d l =
    let r = seat_there hub.lane 0 trees hub.frames seats h k d l in
    record { turn = ap (slice_get hub.frames) (r.1 ∙ omega arith) ∙ r.0; lane = r.2 }

pub delivers_new : (turns : List TurnId) (ds : List (SeatView JEntry)) → ds ≡ map (λ (turn : TurnId). new_seat turn 1 2) turns → (i : ℕ) (d : SeatView JEntry) → slice_get ds i ≡ Some d → IsSeatFor 1 d
delivers_new turns ds e i d h = go turns i (ap (λ l. slice_get l i) (sym e) ∙ h)
  where
    go : (turns : List TurnId) (i : ℕ) → slice_get (map (λ (turn : TurnId). new_seat turn 1 2) turns) i ≡ Some d → IsSeatFor 1 d
    go [] i q = absurd (cc)
    go (u ∷ turns) zero q = let s : new_seat u 1 2 ≡ d = cc in subst (λ (x : SeatView JEntry). IsSeatFor 1 x) s (record { idle = refl; low = refl; high = refl })
    go (u ∷ turns) (suc i) q = go turns i q

pub turns_new : (turns : List TurnId) → map (λ (d : SeatView JEntry). d.turn) (map (λ (turn : TurnId). new_seat turn 1 2) turns) ≡ turns
turns_new [] = refl
turns_new (u ∷ turns) = ap (λ l. u ∷ l) (turns_new turns)

-- ---- readers

module _ (turn : TurnId) where
  pub readers_more : (number count : ℕ) (seats : List ReaderSeatView) (s : ReaderSeatView) → AreNewReaders turn number count seats → s ≡ new_reader_seat turn (number + count) → AreNewReaders turn number (suc count) (seats ++ s ∷ [])
  readers_more number zero [] s h e = (e ∙ ap (new_reader_seat turn) (omega arith), tt)
  readers_more number zero (x ∷ seats) s h e = absurd h
  readers_more number (suc count) [] s h e = absurd h
  readers_more number (suc count) (x ∷ seats) s h e = (h.0, readers_more (suc number) count seats s h.1 (e ∙ ap (new_reader_seat turn) (omega arith)))

  pub readers_turn : (number count : ℕ) (seats : List ReaderSeatView) → AreNewReaders turn number count seats → (k : ℕ) (d : ReaderSeatView) → k < length seats → (get_or seats k d).turn ≡ turn
  readers_turn number zero [] h k d l = absurd (omega arith)
  readers_turn number zero (x ∷ seats) h k d l = absurd h
  readers_turn number (suc count) [] h k d l = absurd h
  readers_turn number (suc count) (x ∷ seats) h zero d l = ap (λ (s : ReaderSeatView). s.turn) h.0
  readers_turn number (suc count) (x ∷ seats) h (suc k) d l = readers_turn (suc number) count seats h.1 k d (omega arith)
