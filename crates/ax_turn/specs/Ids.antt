-- What a clause sees of a turn.
use base.Stored.{Coded, coded×, coded_ℕ, coded_list, coded_via}
use Rattle.std.specs.Prelude.{ℕ, List}
use Rattle.atomic_table.specs.Seated.{TableId, table_id_coded}

-- which turn it is, how many makers there are, and the name of its values
pub record TurnId : Type 0 where
  pub table : TableId
  pub makers : ℕ
  pub name : List ℕ

abbrev pub turn_id_coded : Coded TurnId
turn_id_coded =
    coded_via (coded× (coded× table_id_coded coded_ℕ) (coded_list coded_ℕ)) (λ (t : TurnId). ((t.table, t.makers), t.name))
    (λ x y e i. record { table = (e i).0.0; makers = (e i).0.1; name = (e i).1 })
