-- Lists of ids.
use Rattle.std.specs.Prelude.{ℕ, Bool, true, false, ◌||◌, ◌≡◌, ◌==◌, if◌then◌else◌, List, [], ◌∷◌, Option, Some, None}

abbrev pub is_nil : {A : Type 0} → List A → Bool
is_nil [] = true
is_nil (x ∷ xs) = false

abbrev pub contains : List ℕ → ℕ → Bool
contains [] z = false
contains (x ∷ xs) z = x == z || contains xs z

-- no id stands twice
abbrev pub NoneTwice : List ℕ → Type 0
NoneTwice [] = Unit {0}
NoneTwice (x ∷ xs) = (contains xs x ≡ false) × NoneTwice xs

abbrev pub any_that : (ℕ → Bool) → List ℕ → Bool
any_that p [] = false
any_that p (x ∷ xs) = p x || any_that p xs

-- the first that passes a test
abbrev pub first_that : (ℕ → Bool) → List ℕ → Option ℕ
first_that p [] = None
first_that p (x ∷ xs) = if p x then Some x else first_that p xs

-- the last that passes a test, or d where none does
abbrev pub last_that : (ℕ → Bool) → List ℕ → ℕ → ℕ
last_that p [] d = d
last_that p (x ∷ xs) d = last_that p xs (if p x then x else d)

-- the longest common prefix
abbrev pub common_prefix : List ℕ → List ℕ → List ℕ
common_prefix [] ys = []
common_prefix (x ∷ xs) [] = []
common_prefix (x ∷ xs) (y ∷ ys) = if x == y then x ∷ common_prefix xs ys else []
