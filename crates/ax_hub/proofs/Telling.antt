-- What the browser tells a reader: a seat without numbers is split from the browser's and joined to the reader's.
use Rattle.std.proofs.Common.{◌≡◌, ◌⊎◌, inl, ℕ, ◌+◌, ◌≤◌, false, List, nat_lt, if◌then◌else◌, sym, ap, ◌∙◌, subst, arith}
use Rattle.ax_tree.specs.declared.packet.JEntry.{JEntry}
use Rattle.ax_tree.specs.declared.packet.HEntry.{HEntry}
use Rattle.ax_tree.specs.declared.packet.Packet.{Packet}
use Rattle.std.specs.Prelude.{Option}
use Rattle.ax_rules.specs.Laws.{Begins}
use Rattle.ax_turn.specs.Makers.{GrowsByOthers, longer}
use Rattle.ax_turn.specs.Seats.{SeatView}
use Rattle.ax_lane.specs.Ends.{RxView}
use Rattle.ax_stays.specs.Makers.{by_browser, IsSeatFor}
use Rattle.ax_hub.specs.Seats.{BrowserSeatView, ReaderSeatView, browser_seat_view, reader_seat_view, IsBrowserSeatWhole}

pub begins_by_others : (low high : ℕ) (old new : List HEntry) → GrowsByOthers by_browser low high old new → Begins new old
begins_by_others low high old new g = record { rest = g.0; joined = g.1 }

no_numbers : (low high h : ℕ) → low ≡ 1 → high ≡ 1 → (if nat_lt low high then high else h) ≡ h
no_numbers low high h from to = ap (λ (z : ℕ × ℕ). if nat_lt z.0 z.1 then z.1 else h) (λ i. (from i, to i))

none_more : (n m : ℕ) → m ≡ 0 → n + m ≡ n
none_more n m e = omega arith

pub told_place : (seat : SeatView HEntry) → IsSeatFor 0 seat → (seat.low ≤ 1) × (1 ≤ seat.high)
told_place seat s = let l = s.low in let h = s.high in (omega arith, omega arith)

module _ (seat mid note : SeatView HEntry) (stands : IsSeatFor 0 seat) (kept : mid ≡ record seat { high = 1 }) (given : note ≡ record seat { low = 1; enters = 0 }) where
  -- the browser's seat is as it was
  pub told_seat : mid ≡ seat
  told_seat = kept ∙ λ i. record seat { high = sym stands.high i }

  pub told_whole : (rx : RxView) (held : Option Packet) (deliveries : List (SeatView JEntry)) → IsBrowserSeatWhole seat rx held deliveries → IsBrowserSeatWhole mid rx held deliveries
  told_whole rx held deliveries w = subst (λ (v : SeatView HEntry). IsBrowserSeatWhole v rx held deliveries) (sym told_seat) w

  note_low : note.low ≡ 1
  note_low = ap (λ v. v.low) given

  note_high : note.high ≡ 1
  note_high = ap (λ v. v.high) given ∙ stands.high

  pub note_beside : (n : ℕ) → (note.high ≤ note.low) ⊎ (note.low ≡ n)
  note_beside n = inl (let l = note_low in let h = note_high in omega arith)

  pub note_idle : note.inside ≡ false
  note_idle = ap (λ v. v.inside) given ∙ stands.idle

  module _ (to new : SeatView HEntry) (number : ℕ) (reads : IsSeatFor number to)
      (joined : new ≡ record to { seen = longer to.seen note.seen; high = if nat_lt note.low note.high then note.high else to.high; enters = to.enters + note.enters }) where
    pub told_reader : new ≡ record to { seen = longer to.seen seat.seen }
    told_reader =
        joined ∙ λ i. record to {
          seen = longer to.seen (ap (λ v. v.seen) given i);
          high = no_numbers note.low note.high to.high note_low note_high i;
          enters = none_more to.enters note.enters (ap (λ v. v.enters) given) i;
        }

    pub told_stands : IsSeatFor number new
    told_stands =
        let e = told_reader in record { idle = ap (λ v. v.inside) e ∙ reads.idle; low = ap (λ v. v.low) e ∙ reads.low; high = ap (λ v. v.high) e ∙ reads.high }

    pub told_view : (r : ReaderSeatView) (b : BrowserSeatView) (rx : RxView) (held : Option Packet) (deliveries : List (SeatView JEntry)) → reader_seat_view number to ≡ r → browser_seat_view seat rx held deliveries ≡ b
        → reader_seat_view number new ≡ record r { seen = longer r.seen b.seen }
    told_view r b rx held deliveries r_is b_is =
        ap (reader_seat_view number) told_reader ∙ ap (λ (z : ReaderSeatView × BrowserSeatView). record z.0 { seen = longer z.0.seen z.1.seen }) (λ i. (r_is i, b_is i))

    pub told_all : GrowsByOthers by_browser note.low note.high note.seen new.seen → Begins new.seen seat.seen
    told_all second = subst (Begins new.seen) (ap (λ v. v.seen) given) (begins_by_others note.low note.high note.seen new.seen second)
