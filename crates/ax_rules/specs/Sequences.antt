-- Words on lists and optional values.
use Rattle.std.specs.Prelude.{Bool, true, false, if◌then◌else◌, List, [], ◌∷◌, reverse, Option, Some, None}

abbrev pub first_of : {A : Type 0} → List A → Option A
first_of [] = None
first_of (x ∷ xs) = Some x

abbrev pub second_of : {A : Type 0} → List A → Option A
second_of [] = None
second_of (x ∷ xs) = first_of xs

abbrev pub last_of : {A : Type 0} → List A → Option A
last_of xs = first_of (reverse xs)

-- the list of the first element alone
abbrev pub front_of : {A : Type 0} → List A → List A
front_of [] = []
front_of (x ∷ xs) = x ∷ []

-- the elements before the first that passes
abbrev pub until : {A : Type 0} → (A → Bool) → List A → List A
until p [] = []
until p (x ∷ xs) = if p x then [] else x ∷ until p xs

-- the list from the first that passes on
abbrev pub since : {A : Type 0} → (A → Bool) → List A → List A
since p [] = []
since p (x ∷ xs) = if p x then x ∷ xs else since p xs

-- x where b is true, and nothing elsewhere
abbrev pub where_true : {A : Type 0} → Bool → A → List A
where_true true x = x ∷ []
where_true false x = []
