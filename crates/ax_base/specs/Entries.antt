-- Finite maps from numbers, each the list of its entries in the order of the keys: `find` and `put` of std look up and set.
use Rattle.std.specs.Prelude.{ℕ, Bool, false, not, ◌==◌, List, Option, Some, None, filter, IsTrue, if◌then◌else◌}
use Rattle.std.specs.FinMap.Entries.{is_sorted}
use Rattle.std.specs.Ordering.{nat_cmp}

module _ {X : Type 0} where
  -- the keys rise, so none stands twice
  abbrev pub IsMap : List (ℕ × X) → Type 0
  IsMap es = IsTrue (is_sorted nat_cmp es)

  -- the entries but that of the key
  abbrev pub without : ℕ → List (ℕ × X) → List (ℕ × X)
  without k es = filter (λ e. not (e.0 == k)) es

  -- there is an entry, and it has the key
  abbrev pub has_key : ℕ → Option (ℕ × X) → Bool
  has_key k None = false
  has_key k (Some e) = e.0 == k

  -- the value of an entry with the key
  abbrev pub value_at : ℕ → Option (ℕ × X) → Option X
  value_at k None = None
  value_at k (Some e) = if e.0 == k then Some e.1 else None
