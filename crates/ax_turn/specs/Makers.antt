-- Entries and the numbers of their makers.
use Rattle.std.specs.Prelude.{◌≡◌, ℕ, ◌<◌, ◌≤◌, List, [], ◌∷◌, ◌++◌, length, nat_lt, if◌then◌else◌}

module _ {E : Type 0} (maker : E → ℕ) (low high : ℕ) where
  -- the entry's maker is a number from low to before high
  abbrev pub IsOwn : E → Type 0
  IsOwn e = (low ≤ maker e) × (maker e < high)

  abbrev pub AllOwn : List E → Type 0
  AllOwn [] = Unit {0}
  AllOwn (e ∷ es) = IsOwn e × AllOwn es

  abbrev pub NoneOwn : List E → Type 0
  NoneOwn [] = Unit {0}
  NoneOwn (e ∷ es) = ¬ (IsOwn e) × NoneOwn es

  -- the later list begins with the earlier, and all that follows is own
  abbrev pub GrowsByOwn : List E → List E → Type 0
  GrowsByOwn earlier later = (rest : List E) × (later ≡ earlier ++ rest) × AllOwn rest

  -- the later list begins with the earlier, and none of what follows is own
  abbrev pub GrowsByOthers : List E → List E → Type 0
  GrowsByOthers earlier later = (rest : List E) × (later ≡ earlier ++ rest) × NoneOwn rest

module _ {E : Type 0} where
  abbrev pub longer : List E → List E → List E
  longer xs ys = if nat_lt (length xs) (length ys) then ys else xs

  abbrev pub shorter : List E → List E → List E
  shorter xs ys = if nat_lt (length xs) (length ys) then xs else ys
