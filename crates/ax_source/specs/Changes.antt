-- What changes of the entries, id by id, when a leaf is put in and when a tree is moved.
use Rattle.std.specs.Prelude.{ℕ, ◌≡◌, false, true, ◌==◌, if◌then◌else◌, List, Option, Some, option_map}
use Rattle.ax_trees.specs.Spots.{inserted, removed}
use Rattle.ax_source.specs.declared.entries.Entry.{Entry}

-- an entry with other children
abbrev pub with_list : (List ℕ → List ℕ) → Entry → Entry
with_list g e = record { node = record e.node { children = g e.node.children }; above = e.above }

-- an entry with a child more, with a child less, and with a child elsewhere among the others
abbrev pub child_added : ℕ → ℕ → Entry → Entry
child_added index child e = with_list (inserted index child) e

abbrev pub child_dropped : ℕ → Entry → Entry
child_dropped child e = with_list (removed child) e

abbrev pub child_moved : ℕ → ℕ → Entry → Entry
child_moved index child e = with_list (λ ids. inserted index child (removed child ids)) e

-- an entry under another id
abbrev pub above_set : ℕ → Entry → Entry
above_set above e = record { node = e.node; above = Some above }

-- n is m with a leaf more, at the place `index` below p
pub record Plants (m n : ℕ → Option Entry) (p index c : ℕ) (leaf : Entry) : Type 0 where
  pub at_leaf : (z : ℕ) → (c == z) ≡ true → n z ≡ Some leaf
  pub at_parent : (z : ℕ) → (c == z) ≡ false → (p == z) ≡ true → n z ≡ option_map (child_added index c) (m z)
  pub others : (z : ℕ) → (c == z) ≡ false → (p == z) ≡ false → n z ≡ m z

-- the entry at z when `moved` leaves the children of `old` and comes to the place `index` of those of `new`
abbrev pub relinked : ℕ → ℕ → ℕ → ℕ → ℕ → Entry → Entry
relinked moved old new index z e =
    let left = if old == z then child_dropped moved e else e in
    let come = if new == z then child_added index moved left else left in
    if moved == z then above_set new come else come

pub record Relinks (m n : ℕ → Option Entry) (moved old new index : ℕ) : Type 0 where
  pub at : (z : ℕ) → n z ≡ option_map (relinked moved old new index z) (m z)
