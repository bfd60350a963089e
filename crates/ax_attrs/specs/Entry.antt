-- A row of a table as contracts see it, and rows by their numbers and names.
use Rattle.std.specs.Prelude.{ℕ, zero, suc, ◌+◌, List, bytes_eq, Option, Some, None, slice_get, nat_le, if◌then◌else◌, ◌≡◌}
use Rattle.std.specs.List.{find}
use Rattle.std.specs.Option.{option_map, option_and_then}
use Rattle.ax_attrs.specs.declared.table.Kind.{Kind}
use Rattle.ax_attrs.specs.declared.table.When.{When}
use Rattle.ax_attrs.specs.declared.table.When.TheVariants.{Either}

-- a row: its number and name, the kind of its values, and the number of its event with the change that makes it
pub record Entry : Type 0 where
  pub number : ℕ
  pub name : List ℕ
  pub kind : Option Kind
  pub event : Option (ℕ × When)

abbrev pub plain : ℕ → List ℕ → Entry
plain number name = record { number = number; name = name; kind = None; event = None }

abbrev pub with_event : ℕ → List ℕ → ℕ → When → Entry
with_event number name event when = record { number = number; name = name; kind = None; event = Some (event, when) }

abbrev pub with_kind : ℕ → List ℕ → Kind → Option ℕ → Entry
with_kind number name kind event = record { number = number; name = name; kind = Some kind; event = option_map (λ e. (e, Either)) event }

-- the row of that number, where the first row's is 1
abbrev pub row_of : List Entry → ℕ → Option Entry
row_of rows zero = None
row_of rows (suc place) = slice_get rows place

-- what that row has
abbrev pub name_of : List Entry → ℕ → Option (List ℕ)
name_of rows number = option_map (λ row. row.name) (row_of rows number)

abbrev pub kind_of : List Entry → ℕ → Option Kind
kind_of rows number = option_and_then (λ row. row.kind) (row_of rows number)

abbrev pub event_of : List Entry → ℕ → Option (ℕ × When)
event_of rows number = option_and_then (λ row. row.event) (row_of rows number)

-- the number has a row, with that name
abbrev pub IsNamed : List Entry → ℕ → List ℕ → Type 0
IsNamed rows number name = name_of rows number ≡ Some name

-- the number of the row that has the name
abbrev pub number_named : List Entry → List ℕ → Option ℕ
number_named rows name = option_map (λ row. row.number) (find (λ row. bytes_eq row.name name) rows)

-- the same where the number is at most `count`
abbrev pub number_within : ℕ → List Entry → List ℕ → Option ℕ
number_within count rows name = option_and_then (λ number. if nat_le number count then Some number else None) (number_named rows name)

-- the numbers are 1, 2, 3 and so on, and no name stands twice
pub record IsTable (rows : List Entry) : Type 0 where
  pub numbered : (i : ℕ) (row : Entry) → slice_get rows i ≡ Some row → row.number ≡ i + 1
  pub distinct : (i j : ℕ) (a b : Entry) → slice_get rows i ≡ Some a → slice_get rows j ≡ Some b → a.name ≡ b.name → i ≡ j
