-- Where ids stand in a list.
use Rattle.std.specs.Prelude.{ℕ, ◌≡◌, suc, ◌==◌, if◌then◌else◌, List, [], ◌∷◌, Option, Some, None, option_map}
use Rattle.ax_forest.specs.ById.{at_id}

-- the place of the id, from 0
abbrev pub place_of : List ℕ → ℕ → Option ℕ
place_of [] t = None
place_of (x ∷ xs) t = if x == t then Some 0 else option_map suc (place_of xs t)

-- at the place of each id stands where the id stands in the list
pub record AreAt (ts : List ℕ) (places : List (Option ℕ)) : Type 0 where
  pub at : (t : ℕ) → at_id places t ≡ place_of ts t
