-- Lists by ids: at the place of each id a value or none.
use Rattle.std.specs.Prelude.{ℕ, ◌≡◌, true, List, Option, Some, None, IsSome, slice_get, nat_eq, if◌then◌else◌}
use Rattle.ax_trees.specs.Lists.{contains}

abbrev pub in_place : {A : Type 0} → Option (Option A) → Option A
in_place None = None
in_place (Some o) = o

-- the value of the id t, where it has one
abbrev pub at_id : {A : Type 0} → List (Option A) → ℕ → Option A
at_id xs t = in_place (slice_get xs t)

abbrev pub HasPlace : {A : Type 0} → List (Option A) → ℕ → Type 0
HasPlace xs t = IsSome (slice_get xs t)

abbrev pub KeepsPlaces : {A : Type 0} → List (Option A) → List (Option A) → Type 0
KeepsPlaces old new = (u : ℕ) → HasPlace old u → HasPlace new u

-- the id t has o now, and each other id what it had
abbrev pub Puts : {A : Type 0} → ℕ → Option A → List (Option A) → List (Option A) → Type 0
Puts t o old new = (u : ℕ) → at_id new u ≡ (if nat_eq t u then o else at_id old u)

-- the ids of ts have the values of g, and no other id has one
pub record IsFilled {A : Type 0} (g : ℕ → A) (ts : List ℕ) (xs : List (Option A)) : Type 0 where
  pub places : (u : ℕ) → contains ts u ≡ true → HasPlace xs u
  pub values : (u : ℕ) → at_id xs u ≡ (if contains ts u then Some (g u) else None)
