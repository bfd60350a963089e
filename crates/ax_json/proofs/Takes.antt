-- Members taken one after the other.
use Rattle.std.proofs.Common.{◌≡◌, ℕ, List, [], ◌∷◌, map, refl, ap, sym, ◌∙◌, Bool, true, false, not, ◌&&◌, ◌||◌, cond, Option, Some, Ordering, Less, Equal, Greater, nat_cmp, bytes_eq, string_bytes, string_cmp, true≢false, IsTrue, ◌↔◌, length, arith, Ok, Err, IfSome}
use Rattle.std.proofs.lemmas.Map.Text.{is_eq-slice_cmp}
use Rattle.std.proofs.lemmas.Slice.Eq.{bytes_eq-Decides}
use Rattle.std.specs.Cmp.Lexicographic.{slice_cmp}
use Rattle.std.specs.List.{list_any, AllByRecursion}
use Rattle.std.specs.List.Sorted.{IsStrictlySortedBy}
use Rattle.std.specs.Map.{keys_of, remove_entry}
use Rattle.std.specs.Ordering.{match_ordering, is_eq}
use Rattle.std.specs.BTreeMap.{is_at}
use Rattle.serde_json.proofs.Views.{Entry}
use Rattle.serde_json.specs.Data.{Data, null, boolean, number, string, array, object, Members, no_members, member}
use Rattle.serde_json.specs.Find.{get, get_member}
use Rattle.serde_json.specs.View.{view, members_view}
use Rattle.ax_json.specs.declared.refusal.Fault.TheVariants.{UnknownMember}
use Rattle.ax_json.specs.declared.refusal.WalkErr.{WalkErr}
use Rattle.ax_json.specs.Refused.{refusal_of}
use Rattle.ax_json.specs.Walk.{only, differ, known, object_of}
use Rattle.ax_json.specs.Taken.{without, is_none_left}

true_of : (b : Bool) → IsTrue b → b ≡ true
true_of b h = h

-- texts that differ
differs : (xs ys : List ℕ) (b : Bool) → bytes_eq xs ys ≡ b → (xs ≡ ys → ⊥) → b ≡ false
differs xs ys true e other = absurd (other ((bytes_eq-Decides xs ys).0 e))
differs xs ys false e other = refl

-- ---- what a map has after a removal

later_than : (name : List ℕ) (es : List Entry) → AllByRecursion (λ y. slice_cmp nat_cmp name (string_bytes y) ≡ Less) (keys_of es) → without name (members_view es) ≡ members_view es
later_than name [] h = refl
later_than name (e ∷ es) h =
    let other : bytes_eq name (string_bytes e.0) ≡ false = sym (is_eq-slice_cmp name (string_bytes e.0)) ∙ ap is_eq h.0 in
    rw other (ap (member (string_bytes e.0) (view e.1)) (later_than name es h.1))

removed_at : (name : List ℕ) (e : Entry) (es : List Entry) (b : Bool) → bytes_eq name (string_bytes e.0) ≡ b → AllByRecursion (λ y. string_cmp e.0 y ≡ Less) (keys_of es)
    → members_view (remove_entry (is_at (λ k. slice_cmp nat_cmp name (string_bytes k))) es) ≡ without name (members_view es)
    → members_view (cond b es (e ∷ remove_entry (is_at (λ k. slice_cmp nat_cmp name (string_bytes k))) es)) ≡ cond b (without name (members_view es)) (member (string_bytes e.0) (view e.1) (without name (members_view es)))
removed_at name e es true is above more =
    let same : name ≡ string_bytes e.0 = (bytes_eq-Decides name (string_bytes e.0)).0 is in
    sym (later_than name es (rw same above))
removed_at name e es false is above more = ap (member (string_bytes e.0) (view e.1)) more

pub removed_view : (name : List ℕ) (es : List Entry) → IsStrictlySortedBy string_cmp (keys_of es)
    → members_view (remove_entry (is_at (λ k. slice_cmp nat_cmp name (string_bytes k))) es) ≡ without name (members_view es)
unfolding IsStrictlySortedBy
removed_view name [] h = refl
removed_view name (e ∷ es) h =
    rw (is_eq-slice_cmp name (string_bytes e.0)) (removed_at name e es (bytes_eq name (string_bytes e.0)) refl h.0 (removed_view name es h.1))

-- ---- what is found after others were taken

either : (o : Ordering) (a b : Option Data) → is_eq o ≡ false → match_ordering o a b a ≡ a
either Less a b e = refl
either Equal a b e = absurd (true≢false e)
either Greater a b e = refl

found_at : (k j l : List ℕ) (d : Data) (ms : Members) (b : Bool) → bytes_eq j l ≡ b → bytes_eq j k ≡ false → get_member k (without j ms) ≡ get_member k ms
    → get_member k (cond b (without j ms) (member l d (without j ms))) ≡ match_ordering (slice_cmp nat_cmp k l) (get_member k ms) (Some d) (get_member k ms)
found_at k j l d ms true is apart more =
    let same : j ≡ l = (bytes_eq-Decides j l).0 is in
    let away = λ (h : k ≡ l). true≢false (sym ((bytes_eq-Decides j k).1 (same ∙ sym h)) ∙ apart) in
    more ∙ sym (either (slice_cmp nat_cmp k l) _ _ (is_eq-slice_cmp k l ∙ differs k l _ refl away))
found_at k j l d ms false is apart more = ap (λ r. match_ordering (slice_cmp nat_cmp k l) r (Some d) r) more

pub get_without : (k j : List ℕ) (ms : Members) → bytes_eq j k ≡ false → get_member k (without j ms) ≡ get_member k ms
get_without k j no_members apart = refl
get_without k j (member l d ms) apart = found_at k j l d ms (bytes_eq j l) refl apart (get_without k j ms apart)

-- what is found where each of these is taken in turn, and what is left then
abbrev pub found_by : List (List ℕ) → Members → List (Option Data)
found_by [] ms = []
found_by (n ∷ names) ms = get_member n ms ∷ found_by names (without n ms)

abbrev pub left_by : List (List ℕ) → Members → Members
left_by [] ms = ms
left_by (n ∷ names) ms = left_by names (without n ms)

or_false : (a b : Bool) → (a || b) ≡ false → (a ≡ false) × (b ≡ false)
or_false true b e = absurd (true≢false e)
or_false false b e = (refl, e)

not_and : (a b : Bool) → (not a && b) ≡ true → (a ≡ false) × (b ≡ true)
not_and true b e = absurd (true≢false (sym e))
not_and false b e = (refl, e)

map_without : (n : List ℕ) (names : List (List ℕ)) (ms : Members) → list_any (λ m. bytes_eq n m) names ≡ false → map (λ m. get_member m (without n ms)) names ≡ map (λ m. get_member m ms) names
map_without n [] ms h = refl
map_without n (m ∷ names) ms h =
    let parts : (bytes_eq n m ≡ false) × (list_any (λ m. bytes_eq n m) names ≡ false) = or_false _ _ h in
    rw (get_without m n ms parts.0, map_without n names ms parts.1)

pub found_is : (names : List (List ℕ)) (ms : Members) → differ names ≡ true → found_by names ms ≡ map (λ n. get_member n ms) names
found_is [] ms h = refl
found_is (n ∷ names) ms h =
    let parts : (list_any (λ m. bytes_eq n m) names ≡ false) × (differ names ≡ true) = not_and _ _ h in
    ap (λ xs. get_member n ms ∷ xs) (found_is names (without n ms) parts.1 ∙ map_without n names ms parts.0)

only_at : (n l : List ℕ) (names : List (List ℕ)) (d : Data) (ms : Members) (b : Bool) → bytes_eq n l ≡ b → only (n ∷ names) ms ≡ only names (without n ms)
    → ((b || list_any (λ m. bytes_eq m l) names) && only (n ∷ names) ms) ≡ only names (cond b (without n ms) (member l d (without n ms)))
only_at n l names d ms true is more = more
only_at n l names d ms false is more = ap (λ r. list_any (λ m. bytes_eq m l) names && r) more

only_step : (n : List ℕ) (names : List (List ℕ)) (ms : Members) → only (n ∷ names) ms ≡ only names (without n ms)
only_step n names no_members = refl
only_step n names (member l d ms) = only_at n l names d ms (bytes_eq n l) refl (only_step n names ms)

only_none : (ms : Members) → only [] ms ≡ is_none_left ms
only_none no_members = refl
only_none (member k d ms) = refl

pub only_is : (names : List (List ℕ)) (ms : Members) → only names ms ≡ is_none_left (left_by names ms)
only_is [] ms = only_none ms
only_is (n ∷ names) ms = only_step n names ms ∙ only_is names (without n ms)

-- ---- what `known` and the values are then

pub none_left : (es : List Entry) (b : Bool) → (IsTrue b ↔ (length es ≡ 0)) → b ≡ is_none_left (members_view es)
none_left [] true h = refl
none_left [] false h = h.1 refl
none_left (e ∷ es) true h = absurd (omega (arith, h.0 refl))
none_left (e ∷ es) false h = refl

pub known_of : (names : List (List ℕ)) (d : Data) (ms left : Members) → object_of d ≡ Ok ms → left ≡ left_by names ms → is_none_left left ≡ true → known names d ≡ Ok tt
unfolding known
known_of names d ms left is parts none = rw (is, only_is names ms, ← parts, none)

pub unknown_of : (names : List (List ℕ)) (d : Data) (ms left : Members) (e : WalkErr) → object_of d ≡ Ok ms → left ≡ left_by names ms → is_none_left left ≡ false
    → refusal_of e ≡ Some (record { fault = UnknownMember; path = [] }) → IfSome (refusal_of e) (λ r. known names d ≡ Err r)
unfolding known
unknown_of names d ms left e is parts some at = rw (at, is, only_is names ms, ← parts, some)

get_of : (d : Data) (ms : Members) (n : List ℕ) → object_of d ≡ Ok ms → get_member n ms ≡ get n d
unfolding object_of
get_of null ms n e = cc
get_of (boolean b) ms n e = cc
get_of (number x) ms n e = cc
get_of (string s) ms n e = cc
get_of (array ds) ms n e = cc
get_of (object ns) ms n e =
    let same : ns ≡ ms = cc in
    rw same

gets_of : (names : List (List ℕ)) (d : Data) (ms : Members) → object_of d ≡ Ok ms → map (λ n. get_member n ms) names ≡ map (λ n. get n d) names
gets_of [] d ms e = refl
gets_of (n ∷ names) d ms e = rw (get_of d ms n e, gets_of names d ms e)

pub values_of_names : (names : List (List ℕ)) (d : Data) (ms : Members) (found : List (Option Data)) → object_of d ≡ Ok ms → IsTrue (differ names) → found ≡ found_by names ms → found ≡ map (λ n. get n d) names
values_of_names names d ms found is apart e = e ∙ found_is names ms (true_of (differ names) apart) ∙ gets_of names d ms is
