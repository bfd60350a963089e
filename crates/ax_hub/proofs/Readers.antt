-- The readers' seats, joined to the browser's one after the other.
use Rattle.std.proofs.Common.{◌≡◌, ℕ, zero, suc, ◌+◌, ◌≤◌, false, List, [], ◌∷◌, ◌++◌, reverse, append-nil, append_assoc, true, nat_lt, if◌then◌else◌, All, Result, IfOk, sym, refl, ap, ◌∙◌, subst, arith}
use Rattle.std.proofs.lemmas.Bool.Decides.{nat_tests}
use Rattle.std.proofs.lemmas.List.{reverse-reverse}
use Rattle.std.proofs.lemmas.List.Elements.{All-cons, All-nil}
use Rattle.ax_tree.specs.declared.packet.HEntry.{HEntry}
use Rattle.ax_base.specs.declared.seq.NoMemory.{NoMemory}
use Rattle.ax_turn.specs.Ids.{TurnId}
use Rattle.ax_turn.specs.Makers.{GrowsByOthers, longer}
use Rattle.ax_turn.specs.Seats.{SeatView}
use Rattle.ax_hub.specs.Closing.{AreReadersFrom, AreAllReaders, IsHistoryOf}
use Rattle.ax_lane.specs.Ends.{LaneId}
use Rattle.ax_forest.specs.Past.{Past}
use Rattle.ax_hub.specs.Hubs.{HubView, IsReaderSeatOf}
use Rattle.ax_stays.specs.Makers.{by_browser, IsSeatFor}
use Rattle.ax_hub.specs.Seats.{ReaderSeatView, reader_seat_view}
use Rattle.ax_stays.proofs.Growing.{grows_at}
use Rattle.ax_stays.proofs.Histories.{none_beyond}
use Rattle.ax_hub.proofs.ListLemmas.{reverse_popped}
use Rattle.ax_hub.proofs.Turns.{hub_view}

all_push : {A : Type 0} (P : A → Type 0) (xs : List A) (x : A) → All P xs → P x → All P (xs ++ x ∷ [])
all_push P [] x a p = All-cons P x [] p (All-nil P)
all_push P (y ∷ xs) x a p = All-cons P y (xs ++ x ∷ []) (a zero y (omega arith)) (all_push P xs x (λ k d l. a (suc k) d (omega arith)) p)

-- the readers that are joined so far, and those that are left, from the back of their list
pub record ReadSoFar (all : List ReaderSeatView) (turn : TurnId) (seen : List HEntry) (left : List ReaderSeatView) (seat : SeatView HEntry) : Type 0 where
  pub done : List ReaderSeatView
  pub all_are : all ≡ done ++ reverse left
  pub numbers : AreReadersFrom turn seat.high (reverse left)
  pub turned : seat.turn ≡ turn
  pub idle : seat.inside ≡ false
  pub low : seat.low ≡ 0
  pub some : 1 ≤ seat.high
  pub same : seat.seen ≡ seen
  pub histories : All (IsHistoryOf seen) done

pub none_read : (all left : List ReaderSeatView) (turn : TurnId) (seat : SeatView HEntry) → left ≡ reverse all → seat.turn ≡ turn → IsSeatFor 0 seat → AreAllReaders turn all → ReadSoFar all turn seat.seen left seat
none_read all left turn seat e of s numbers =
    let same : reverse left ≡ all = ap reverse e ∙ reverse-reverse all in
    record {
      done = [];
      all_are = sym same;
      numbers = subst (λ (z : ℕ × List ReaderSeatView). AreReadersFrom turn z.0 z.1) (λ i. (sym s.high i, sym same i)) numbers;
      turned = of;
      idle = s.idle;
      low = s.low;
      some = let h = s.high in omega arith;
      same = refl;
      histories = All-nil (IsHistoryOf seat.seen);
    }

module _ (all : List ReaderSeatView) (turn : TurnId) (seen : List HEntry) (left left' : List ReaderSeatView) (seat : SeatView HEntry) (so_far : ReadSoFar all turn seen left seat) (r : ReaderSeatView) (popped : left ≡ left' ++ r ∷ []) where
  first_reader : reverse left ≡ r ∷ reverse left'
  first_reader = reverse_popped left left' r popped

  next : AreReadersFrom turn seat.high (r ∷ reverse left')
  next = subst (AreReadersFrom turn seat.high) first_reader so_far.numbers

  pub reader_turn : r.turn ≡ turn
  reader_turn = next.0

  pub reader_number : seat.high ≡ r.number
  reader_number = sym next.1

  pub read_next : (new : SeatView HEntry) → new ≡ record seat { high = r.number + 1; enters = new.enters } → IsHistoryOf seat.seen r → ReadSoFar all turn seen left' new
  read_next new e history =
      let high : new.high ≡ suc seat.high = ap (λ s. s.high) e ∙ (let n = next.1 in omega arith) in
      record {
        done = so_far.done ++ r ∷ [];
        all_are = so_far.all_are ∙ (ap (λ l. so_far.done ++ l) first_reader ∙ sym (append_assoc so_far.done (r ∷ []) (reverse left')));
        numbers = subst (λ (n : ℕ). AreReadersFrom turn n (reverse left')) (sym high) next.2;
        turned = ap (λ s. s.turn) e ∙ so_far.turned;
        idle = ap (λ s. s.inside) e ∙ so_far.idle;
        low = ap (λ s. s.low) e ∙ so_far.low;
        some = let s = so_far.some in omega arith;
        same = ap (λ s. s.seen) e ∙ so_far.same;
        histories = all_push (IsHistoryOf seen) so_far.done r so_far.histories (subst (λ h. IsHistoryOf h r) so_far.same history);
      }

pub all_read : (all : List ReaderSeatView) (turn : TurnId) (seen : List HEntry) (left : List ReaderSeatView) (seat : SeatView HEntry) → ReadSoFar all turn seen left seat → left ≡ [] → (seat.high ≡ turn.makers) × All (IsHistoryOf seen) all
all_read all turn seen left seat so_far none = (
  sym (subst (λ l. AreReadersFrom turn seat.high (reverse l)) none so_far.numbers),
  subst (All (IsHistoryOf seen)) (sym (so_far.all_are ∙ (ap (λ l. so_far.done ++ reverse l) none ∙ append-nil so_far.done))) so_far.histories,
)

-- ---- a reader's seat between calls

module _ (hub : HubView) (frames : List TurnId) (forest : TurnId) (lane : LaneId) (hub_is : hub_view frames forest lane ≡ hub) (s : ReaderSeatView) (number : ℕ) (seat : SeatView HEntry) (seat_is : reader_seat_view number seat ≡ s) (of : IsReaderSeatOf hub s) where
  pub reader_of : seat.turn ≡ forest
  reader_of = ap (λ (v : ReaderSeatView). v.turn) seat_is ∙ (of ∙ ap (λ (h : HubView). h.forest) (sym hub_is))

  pub reader_stays : (new : SeatView HEntry) → new.turn ≡ seat.turn → IsReaderSeatOf hub (reader_seat_view number new)
  reader_stays new e = e ∙ (reader_of ∙ ap (λ (h : HubView). h.forest) hub_is)

  pub reader_after : (new : SeatView HEntry) → new ≡ record seat { seen = new.seen; enters = seat.enters + 1 } → reader_seat_view number new ≡ record s { seen = new.seen; enters = s.enters + 1 }
  reader_after new e = (λ i. reader_seat_view number (e i)) ∙ ap (λ (v : ReaderSeatView). record v { seen = new.seen; enters = v.enters + 1 }) seat_is

  pub reader_begins : (new : SeatView HEntry) → GrowsByOthers by_browser number (number + 1) seat.seen new.seen → GrowsByOthers by_browser s.number (s.number + 1) s.seen new.seen
  reader_begins new g = subst (λ (v : ReaderSeatView). GrowsByOthers by_browser v.number (v.number + 1) v.seen new.seen) seat_is g

  pub snap_shown : (r : Result Past NoMemory) (look : Past) (new : SeatView HEntry) → IfOk r (λ snap. snap ≡ look) → look ≡ record { trees = forest.name; history = new.seen } → IfOk r (λ snap. snap ≡ record { trees = hub.forest.name; history = new.seen })
  snap_shown r look new is shows = subst (λ (p : Past). IfOk r (λ snap. snap ≡ p)) (shows ∙ λ i. record { trees = (hub_is i).forest.name; history = new.seen }) is

-- ---- one reader that is joined

joined_number : (low high h n : ℕ) → low ≡ n → high ≡ n + 1 → (if nat_lt low high then high else h) ≡ n + 1
joined_number low high h n from to = let less : nat_lt low high ≡ true = grind (arith, nat_tests) in rw less to

module _ (seat new other : SeatView HEntry) (r : ReaderSeatView) (number : ℕ) (seat_is : reader_seat_view number other ≡ r) (stands : IsSeatFor number other) (low : seat.low ≡ 0) (high : seat.high ≡ r.number) (some : 1 ≤ r.number) where
  same_number : number ≡ r.number
  same_number = ap (λ (v : ReaderSeatView). v.number) seat_is

  none_missed : GrowsByOthers by_browser seat.low seat.high seat.seen new.seen → new.seen ≡ seat.seen
  none_missed first = none_beyond seat.low seat.high seat.seen new.seen low (let h = high in omega arith) first

  pub joined_seat : new ≡ record seat { seen = longer seat.seen other.seen; high = if nat_lt other.low other.high then other.high else seat.high; enters = seat.enters + other.enters }
      → GrowsByOthers by_browser seat.low seat.high seat.seen new.seen → new ≡ record seat { high = r.number + 1; enters = new.enters }
  joined_seat e first =
      e ∙ λ i. record seat {
        seen = (ap (λ v. v.seen) (sym e) ∙ none_missed first) i;
        high = (joined_number other.low other.high seat.high r.number (stands.low ∙ same_number) (stands.high ∙ ap (λ n. n + 1) same_number)) i;
        enters = ap (λ v. v.enters) (sym e) i;
      }

  pub joined_reader : GrowsByOthers by_browser seat.low seat.high seat.seen new.seen → GrowsByOthers by_browser other.low other.high other.seen new.seen → IsHistoryOf seat.seen r
  joined_reader first second =
      subst (λ (h : List HEntry). IsHistoryOf h r) (none_missed first)
      (subst (λ (v : ReaderSeatView). IsHistoryOf new.seen v) seat_is (grows_at by_browser other.low other.high number (number + 1) other.seen new.seen stands.low stands.high second))
