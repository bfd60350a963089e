-- Rows found by their names.
use Rattle.std.proofs.Common.{◌≡◌, ◌<◌, ◌≤◌, ℕ, zero, suc, ◌+◌, Bool, true, false, cond, not, ◌&&◌, ◌||◌, ◌↔◌, nat_eq, bytes_eq, List, [], ◌∷◌, length, slice_get, Option, Some, None, option_map, refl, sym, ap, ◌∙◌, arith}
use Rattle.std.specs.List.{find, list_any}
use Rattle.std.proofs.lemmas.Bool.{eqb-true}
use Rattle.std.proofs.lemmas.Option.{slice_get_within, same_Some}
use Rattle.std.proofs.lemmas.Slice.Eq.{bytes_eq-Decides}
use Rattle.ax_attrs.specs.Entry.{Entry, IsTable, number_named, row_of, IsNamed}

pub both_left : (a b : Bool) → (a && b) ≡ true → a ≡ true
both_left true b h = refl
both_left false b h = h

pub both_right : (a b : Bool) → (a && b) ≡ true → b ≡ true
both_right true b h = h
both_right false b h = absurd (cc)

or_right : (a b : Bool) → b ≡ true → (a || b) ≡ true
or_right true b h = refl
or_right false b h = h

-- a table's rule as tests that compute over the whole table
abbrev pub are_numbered : ℕ → List Entry → Bool
are_numbered before [] = true
are_numbered before (row ∷ rows) = nat_eq row.number (before + 1) && are_numbered (before + 1) rows

abbrev pub are_distinct : List Entry → Bool
are_distinct [] = true
are_distinct (row ∷ rows) = not (list_any (λ other. bytes_eq other.name row.name) rows) && are_distinct rows

numbered-at : (rows : List Entry) (before i : ℕ) (row : Entry) → are_numbered before rows ≡ true → slice_get rows i ≡ Some row → row.number ≡ before + i + 1
numbered-at [] before i row test at = absurd (cc)
numbered-at (first ∷ rows) before zero row test at =
    let same : first ≡ row = same_Some _ _ at in
    let number : first.number ≡ before + 1 = eqb-true first.number (before + 1) (both_left (nat_eq first.number (before + 1)) (are_numbered (before + 1) rows) test) in
    let place : before + 1 ≡ before + 0 + 1 = omega arith in
    sym (ap (λ r. r.number) same) ∙ number ∙ place
numbered-at (first ∷ rows) before (suc i) row test at =
    let place : before + 1 + i + 1 ≡ before + suc i + 1 = omega arith in
    let number : row.number ≡ before + 1 + i + 1 = numbered-at rows (before + 1) i row (both_right _ _ test) at in
    number ∙ place

any-at : (p : Entry → Bool) (rows : List Entry) (i : ℕ) (row : Entry) → slice_get rows i ≡ Some row → p row ≡ true → list_any p rows ≡ true
any-at p [] i row at holds = absurd (cc)
any-at p (first ∷ rows) zero row at holds =
    let same : first ≡ row = same_Some _ _ at in
    ap (λ b. b || list_any p rows) (ap p same ∙ holds)
any-at p (first ∷ rows) (suc i) row at holds = or_right (p first) (list_any p rows) (any-at p rows i row at holds)

-- no later row has the first one's name
other-name : (first : Entry) (rows : List Entry) (i : ℕ) (row : Entry) → are_distinct (first ∷ rows) ≡ true → slice_get rows i ≡ Some row → row.name ≡ first.name → ⊥
other-name first rows i row test at same =
    let twice : list_any (λ other. bytes_eq other.name first.name) rows ≡ true = any-at (λ other. bytes_eq other.name first.name) rows i row at ((bytes_eq-Decides row.name first.name).1 same) in
    let apart : not (list_any (λ other. bytes_eq other.name first.name) rows) ≡ true = both_left _ _ test in
    cc (twice, apart)

distinct-at : (rows : List Entry) (i j : ℕ) (a b : Entry) → are_distinct rows ≡ true → slice_get rows i ≡ Some a → slice_get rows j ≡ Some b → a.name ≡ b.name → i ≡ j
distinct-at [] i j a b test at_i at_j same = absurd (cc)
distinct-at (first ∷ rows) zero zero a b test at_i at_j same = refl
distinct-at (first ∷ rows) zero (suc j) a b test at_i at_j same =
    absurd (other-name first rows j b test at_j (sym same ∙ sym (ap (λ r. r.name) (same_Some first a at_i))))
distinct-at (first ∷ rows) (suc i) zero a b test at_i at_j same =
    absurd (other-name first rows i a test at_i (same ∙ sym (ap (λ r. r.name) (same_Some first b at_j))))
distinct-at (first ∷ rows) (suc i) (suc j) a b test at_i at_j same = ap suc (distinct-at rows i j a b (both_right _ _ test) at_i at_j same)

pub tested : (rows : List Entry) → are_numbered 0 rows ≡ true → are_distinct rows ≡ true → IsTable rows
tested rows numbered distinct = record {
  numbered = λ i row at. (let number : row.number ≡ 0 + i + 1 = numbered-at rows 0 i row numbered at in omega (arith, number));
  distinct = λ i j a b. distinct-at rows i j a b distinct;
}

-- the first row that has the name, where a row has it
found-at : (rows : List Entry) (name : List ℕ) (row : Entry) → find (λ r. bytes_eq r.name name) rows ≡ Some row
    → (i : ℕ) × (slice_get rows i ≡ Some row) × (row.name ≡ name)
found-at [] name row is = absurd (cc)
found-at (first ∷ rows) name row is = go (bytes_eq first.name name) refl (found-at rows name row)
  where
    unfolded : (b : Bool) → bytes_eq first.name name ≡ b → cond b (Some first) (find (λ r. bytes_eq r.name name) rows) ≡ Some row
    unfolded b e = sym (ap (λ b. cond b (Some first) (find (λ r. bytes_eq r.name name) rows)) e) ∙ is

    go : (b : Bool) → bytes_eq first.name name ≡ b → (find (λ r. bytes_eq r.name name) rows ≡ Some row → (i : ℕ) × (slice_get rows i ≡ Some row) × (row.name ≡ name))
        → (i : ℕ) × (slice_get (first ∷ rows) i ≡ Some row) × (row.name ≡ name)
    go true e rest =
        let same : first ≡ row = same_Some _ _ (unfolded true e) in
        (0, ap Some same, sym (ap (λ r. r.name) same) ∙ (bytes_eq-Decides first.name name).0 e)
    go false e rest = let r = rest (unfolded false e) in (suc r.0, r.1, r.2)

find-there : (rows : List Entry) (name : List ℕ) (i : ℕ) (row : Entry) → slice_get rows i ≡ Some row → row.name ≡ name
    → (found : Entry) × (find (λ r. bytes_eq r.name name) rows ≡ Some found)
find-there [] name i row at same = absurd (cc)
find-there (first ∷ rows) name zero row at same =
    let here : bytes_eq first.name name ≡ true = (bytes_eq-Decides first.name name).1 (ap (λ r. r.name) (same_Some first row at) ∙ same) in
    (first, ap (λ b. cond b (Some first) (find (λ r. bytes_eq r.name name) rows)) here)
find-there (first ∷ rows) name (suc i) row at same = go (bytes_eq first.name name) refl (find-there rows name i row at same)
  where
    go : (b : Bool) → bytes_eq first.name name ≡ b → (found : Entry) × (find (λ r. bytes_eq r.name name) rows ≡ Some found)
        → (found : Entry) × (find (λ r. bytes_eq r.name name) (first ∷ rows) ≡ Some found)
    go true e rest = (first, ap (λ b. cond b (Some first) (find (λ r. bytes_eq r.name name) rows)) e)
    go false e rest = (rest.0, ap (λ b. cond b (Some first) (find (λ r. bytes_eq r.name name) rows)) e ∙ rest.1)

mapped : {X Y : Type 0} (f : X → Y) (o : Option X) (y : Y) → option_map f o ≡ Some y → (x : X) × (o ≡ Some x) × (f x ≡ y)
mapped f None y is = absurd (cc)
mapped f (Some x) y is = (x, refl, same_Some _ _ is)

-- in a table a row is the first with its name
pub named-at : (rows : List Entry) → IsTable rows → (i : ℕ) (row : Entry) → slice_get rows i ≡ Some row → number_named rows row.name ≡ Some (i + 1)
named-at rows table i row at =
    let there = find-there rows row.name i row at refl in
    let found = found-at rows row.name there.0 there.1 in
    let place : found.0 ≡ i = table.distinct found.0 i there.0 row found.1 at found.2 in
    ap (option_map (λ r. r.number)) there.1 ∙ ap Some (table.numbered found.0 there.0 found.1 ∙ ap (λ k. k + 1) place)

row_of-suc : (rows : List Entry) (n : ℕ) (row : Entry) → row_of rows n ≡ Some row → (i : ℕ) × (n ≡ i + 1) × (slice_get rows i ≡ Some row)
row_of-suc rows zero row at = absurd (cc)
row_of-suc rows (suc i) row at = (i, omega arith, at)

row_of-place : (rows : List Entry) (n i : ℕ) → n ≡ i + 1 → row_of rows n ≡ slice_get rows i
row_of-place rows zero i e = absurd (omega arith)
row_of-place rows (suc k) i e = let same : k ≡ i = omega arith in ap (slice_get rows) same

-- a number is found for a name exactly where its row has that name
found_is : (rows : List Entry) → IsTable rows → (name : List ℕ) (n : ℕ) → number_named rows name ≡ Some n → IsNamed rows n name
found_is rows table name n is =
    let found = mapped (λ r. r.number) (find (λ r. bytes_eq r.name name) rows) n is in
    let at = found-at rows name found.0 found.1 in
    ap (option_map (λ r. r.name)) (row_of-place rows n at.0 (sym found.2 ∙ table.numbered at.0 found.0 at.1) ∙ at.1) ∙ ap Some at.2

is_found : (rows : List Entry) → IsTable rows → (name : List ℕ) (n : ℕ) → IsNamed rows n name → number_named rows name ≡ Some n
is_found rows table name n named =
    let row = mapped (λ r. r.name) (row_of rows n) name named in
    let at = row_of-suc rows n row.0 row.1 in
    sym (ap (number_named rows) row.2) ∙ named-at rows table at.0 row.0 at.2 ∙ ap Some (sym at.1)

pub found_exactly : (rows : List Entry) → IsTable rows → (name : List ℕ) (r : Option ℕ) → r ≡ number_named rows name → (n : ℕ) → (r ≡ Some n) ↔ IsNamed rows n name
found_exactly rows table name r e n = (λ f. found_is rows table name n (sym e ∙ f), λ named. e ∙ is_found rows table name n named)

-- what is found is the number of a row
pub found_within : (rows : List Entry) → IsTable rows → (name : List ℕ) (n : ℕ) → number_named rows name ≡ Some n → (0 < n) × (n ≤ length rows)
found_within rows table name n is =
    let row = mapped (λ r. r.name) (row_of rows n) name (found_is rows table name n is) in
    let at = row_of-suc rows n row.0 row.1 in
    let number : n ≡ at.0 + 1 = at.1 in
    let within : at.0 < length rows = slice_get_within rows at.0 row.0 at.2 in
    (omega arith, omega arith)
