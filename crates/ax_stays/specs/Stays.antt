-- What a stay in a turn adds to what its seat has seen.
use Rattle.std.specs.Prelude.{◌≡◌, ℕ, List, ◌++◌}
use Rattle.ax_turn.specs.Makers.{GrowsByOthers}

-- What the seat had seen goes on by entries of other makers, and then by those that the stay adds. The fact is true of the list before the stay.
pub record Stay {E : Type 0} (maker : E → ℕ) (low high : ℕ) (old added new : List E) (fact : List E → Type 0) : Type 0 where
  pub before : List E
  pub others : GrowsByOthers maker low high old before
  pub grown : new ≡ before ++ added
  pub answer : fact before
