-- What a table of blocks has at each id.
use Rattle.std.specs.Prelude.{◌≡◌, ℕ, zero, suc, ◌+◌, ◌*◌, ◌/◌, ◌%◌, if◌then◌else◌, List, [], ◌∷◌, Option, Some, None, option_and_then, nat_eq, ◌<◌}
use Rattle.std.specs.HashMap.{HashMap, get, keys}
use Rattle.std.specs.declared.sync.Arc.{Arc}
use Rattle.std.specs.Arc.{arc_value}
use Rattle.std.specs.Option.{ForSome, IsSomeAnd}
use Rattle.std.specs.Ordering.{nat_cmp}
use Rattle.std.specs.FinMap as map
use Rattle.ax_pages.specs.Slots.{slot, used_count}

module _ {X : Type 0} where
  -- the value at an id in its block, whose places have pages
  abbrev pub value_in : List (Option (List (Option X))) → ℕ → Option X
  value_in block id = option_and_then (λ page. slot page (id % 64)) (slot block (id / 64 % 64))

  -- one value of a block is put or taken out
  abbrev pub PutsIn : List (Option (List (Option X))) → List (Option (List (Option X))) → ℕ → Option X → Type 0
  PutsIn b c id o = (q : ℕ) → id / 64 / 64 ≡ q / 64 / 64 → value_in c q ≡ (if nat_eq id q then o else value_in b q)

  -- a block with the same values
  abbrev pub IsSameIn : List (Option (List (Option X))) → List (Option (List (Option X))) → Type 0
  IsSameIn b c = (q : ℕ) → value_in c q ≡ value_in b q

  -- no page of a block is empty
  abbrev pub PagesAreUsed : List (Option (List (Option X))) → Type 0
  PagesAreUsed block = (place : ℕ) → ForSome (slot block place) (λ page. 0 < used_count page)

  -- an id's page is the only one of its block, and has a single value
  abbrev pub IsLast : List (Option (List (Option X))) → ℕ → Type 0
  IsLast block id = (used_count block ≡ 1) × IsSomeAnd (slot block (id / 64 % 64)) (λ page. used_count page ≡ 1)

module _ {X Z S : Type 0} where
  -- the value at an id
  abbrev pub value_at : HashMap ℕ (Arc (List (Option (List (Option X)))) Z) S → ℕ → Option X
  value_at m id = option_and_then (λ a. value_in (arc_value a) id) (get nat_eq m (id / 64 / 64))

  -- one value is put or taken out
  abbrev pub Puts : HashMap ℕ (Arc (List (Option (List (Option X)))) Z) S → HashMap ℕ (Arc (List (Option (List (Option X)))) Z) S → ℕ → Option X → Type 0
  Puts m n id o = (q : ℕ) → value_at n q ≡ (if nat_eq id q then o else value_at m q)

  -- neither a block nor a page is empty
  abbrev pub EachIsUsed : HashMap ℕ (Arc (List (Option (List (Option X)))) Z) S → Type 0
  EachIsUsed m = (number : ℕ) → ForSome (get nat_eq m number) (λ a. (0 < used_count (arc_value a)) × PagesAreUsed (arc_value a))

  -- the same values
  abbrev pub IsSame : HashMap ℕ (Arc (List (Option (List (Option X)))) Z) S → HashMap ℕ (Arc (List (Option (List (Option X)))) Z) S → Type 0
  IsSame m n = (q : ℕ) → value_at n q ≡ value_at m q

-- the entries of a look-up at these keys
module _ {X : Type 0} where
  abbrev pub entry_at : ℕ → Option X → List (ℕ × X) → List (ℕ × X)
  entry_at q None es = es
  entry_at q (Some x) es = (q, x) ∷ es

  abbrev pub entries_at : (ℕ → Option X) → List ℕ → List (ℕ × X)
  entries_at g [] = []
  entries_at g (q ∷ qs) = entry_at q (g q) (entries_at g qs)

-- the n ids from this one on
abbrev pub from_on : ℕ → ℕ → List ℕ → List ℕ
from_on q zero qs = qs
from_on q (suc n) qs = q ∷ from_on (q + 1) n qs

-- the ids of these pages, or the pages of these blocks
unfoldable pub ids_of : List ℕ → List ℕ
ids_of [] = []
ids_of (n ∷ ns) = from_on (64 * n) 64 (ids_of ns)

module _ {X Z Y S : Type 0} where
  -- neither a block nor a page of a table is empty
  abbrev pub AllUsed : Option (Arc (HashMap ℕ (Arc (List (Option (List (Option X)))) Z) S) Y) → Type 0
  AllUsed o = ForSome o (λ a. EachIsUsed (arc_value a))

  -- the values of a table, by id
  abbrev pub held : Option (Arc (HashMap ℕ (Arc (List (Option (List (Option X)))) Z) S) Y) → map.FinMap nat_cmp X
  held None = map.empty
  held (Some a) = map.from_entries (entries_at (value_at (arc_value a)) (ids_of (ids_of (keys (arc_value a)))))
