-- What joining gives, of plain values.
use Rattle.std.proofs.Common.{◌≡◌, ◌≤◌, ◌⊎◌, Option, sym, subst}
use Rattle.atomic_table.specs.declared.shared.Seat.{Seat}
use Rattle.ax_turn.specs.declared.known.Known.{Known}
use Rattle.ax_turn.specs.Seats.{SeatView, seat_view}

module _ {T E : Type 0} where
  pub beside_of : (p q : Seat (Option T) (Known E)) (a b : SeatView E) → seat_view p ≡ a → seat_view q ≡ b → (b.high ≤ b.low) ⊎ (b.low ≡ a.high)
      → (q.me.0.high ≤ q.me.0.low) ⊎ (q.me.0.low ≡ p.me.0.high)
  beside_of p q a b at_p at_q beside =
      subst (λ (a : SeatView E). (q.me.0.high ≤ q.me.0.low) ⊎ (q.me.0.low ≡ a.high)) (sym at_p)
      (subst (λ (b : SeatView E). (b.high ≤ b.low) ⊎ (b.low ≡ a.high)) (sym at_q) beside)
