-- What a clause sees of a seat.
use base.Stored.{Coded, coded×, coded_ℕ, coded_bool, coded_list, coded_via}
use Rattle.std.specs.Prelude.{◌≡◌, ℕ, ◌<◌, ◌≤◌, Bool, true, false, List, [], ◌∷◌, Option, None}
use Rattle.atomic_table.specs.declared.shared.Seat.{Seat}
use Rattle.ax_turn.specs.declared.known.Known.{Known}
use Rattle.ax_turn.specs.Ids.{TurnId, turn_id_coded}

-- the turn that it is of, whether it is inside, the entries that it has seen, the numbers of makers for which it
-- stands, from low to before high, and how often it has entered
pub record SeatView (E : Type 0) : Type 0 where
  pub turn : TurnId
  pub inside : Bool
  pub seen : List E
  pub low : ℕ
  pub high : ℕ
  pub enters : ℕ

abbrev pub seat_view_coded : {E : Type 0} → Coded E → Coded (SeatView E)
seat_view_coded {E} c =
    coded_via (coded× (coded× (coded× turn_id_coded coded_bool) (coded_list c)) (coded× (coded× coded_ℕ coded_ℕ) coded_ℕ))
    (λ (s : SeatView E). (((s.turn, s.inside), s.seen), ((s.low, s.high), s.enters)))
    (λ x y e i. record { turn = (e i).0.0.0; inside = (e i).0.0.1; seen = (e i).0.1; low = (e i).1.0.0; high = (e i).1.0.1; enters = (e i).1.1 })

-- what a seat of the table holds: the empty slot while it is inside, and else nothing
abbrev pub hand_of : {T : Type 0} → Bool → List (ℕ × Option T)
hand_of true = (0, None) ∷ []
hand_of false = []

module _ {T E : Type 0} where
  abbrev pub seat_view : Seat (Option T) (Known E) → SeatView E
  seat_view p = record {
    turn = record { table = p.table_id; makers = p.me.0.makers; name = p.me.0.name };
    inside = p.me.0.inside;
    seen = p.me.0.seen;
    low = p.me.0.low;
    high = p.me.0.high;
    enters = p.me.0.enters;
  }

  -- what is true of each seat between two calls
  pub record IsSeatWhole (p : Seat (Option T) (Known E)) : Type 0 where
    pub hand : p.me.1 ≡ hand_of p.me.0.inside
    pub some_maker : 0 < p.me.0.makers
    pub order : p.me.0.low ≤ p.me.0.high
    pub below : p.me.0.high ≤ p.me.0.makers
    pub told : p.me.0.told ≡ []
    pub told_low : p.me.0.told_low ≡ 0
    pub told_high : p.me.0.told_high ≡ 0
