-- How a walk over the names of an object goes on, and over the rows of the table of attributes.
use Rattle.std.proofs.Common.{◌≡◌, ℕ, zero, suc, ◌+◌, ◌-◌, ◌<◌, List, [], ◌∷◌, refl, ap, sym, subst, arith, add-one, add-zero, add-suc, Bool, true, ◌&&◌, Option, Some, None, option_map, Result, Ok, Err, IfSome, ◌∙◌, String, Global, string_bytes}
use Rattle.std.specs.Map.{keys_of}
use Rattle.std.specs.Option.{option_and_then}
use Rattle.serde_json.proofs.Views.{Entry as Pair}
use Rattle.serde_json.specs.Data.{Data}
use Rattle.serde_json.specs.Find.{get}
use Rattle.serde_json.specs.View.{members_view}
use Rattle.ax_attrs.specs.declared.table.Kind.{Kind}
use Rattle.ax_attrs.specs.Entry.{Entry, row_of, name_of, kind_of}
use Rattle.ax_attrs.specs.Tables.{key_rows}
use Rattle.ax_node.specs.declared.value.Value.{Value}
use Rattle.ax_tree.specs.declared.edit.AttrChange.{AttrChange}
use Rattle.ax_json.specs.declared.refusal.WalkErr.{WalkErr}
use Rattle.ax_json.specs.declared.refusal.WalkErr.TheVariants.{Refused, NoMemory}
use Rattle.ax_json.specs.Refused.{Refusal, ◌>>=◌, IsUnder, refusal_of}
use Rattle.ax_json.specs.Walk.{optional, dot}
use Rattle.ax_forms.specs.Looks.{all_named, attr_in, attrs_to, change_in, changes_to, or_null, value_as, value_in, with_attr, with_change}

abbrev pub names_pass : (List ℕ → Bool) → List (String Global) → Bool
names_pass test [] = true
names_pass test (k ∷ ks) = test (string_bytes k) && names_pass test ks

pub names_pass_view : (test : List ℕ → Bool) (es : List Pair) → all_named test (members_view es) ≡ names_pass test (keys_of es)
names_pass_view test [] = refl
names_pass_view test (e ∷ es) = ap (λ b. test (string_bytes e.0) && b) (names_pass_view test es)

pub names_step : (test : List ℕ → Bool) (k : String Global) (ks all : List (String Global)) (name : List ℕ) (b c : Bool) → all ≡ k ∷ ks → b ≡ test name → name ≡ string_bytes k → b ≡ c
    → names_pass test all ≡ (c && names_pass test ks)
names_step test k ks all name b c whole found is e = rw (whole, ← is, ← found, e)

-- ---- rows

attr_in_row : (o : Option Entry) (name : List ℕ) (k : Kind) (d : Data) → option_map (λ row. row.name) o ≡ Some name → option_and_then (λ row. row.kind) o ≡ Some k → attr_in o d ≡ optional (value_as k) name (get name d)
unfolding attr_in
attr_in_row None name k d hn hk = cc
attr_in_row (Some row) name k d hn hk =
    let same : row.name ≡ name = cc in
    let kind : row.kind ≡ Some k = cc in
    rw (same, kind)

change_in_row : (o : Option Entry) (name : List ℕ) (k : Kind) (d : Data) → option_map (λ row. row.name) o ≡ Some name → option_and_then (λ row. row.kind) o ≡ Some k → change_in o d ≡ optional (or_null (value_as k)) name (get name d)
unfolding change_in
change_in_row None name k d hn hk = cc
change_in_row (Some row) name k d hn hk =
    let same : row.name ≡ name = cc in
    let kind : row.kind ≡ Some k = cc in
    rw (same, kind)

attr_of_row : (n : ℕ) (name : List ℕ) (k : Kind) (d : Data) → name_of key_rows n ≡ Some name → kind_of key_rows n ≡ Some k → attr_in (row_of key_rows n) d ≡ optional (value_as k) name (get name d)
attr_of_row n name k d hn hk = attr_in_row (row_of key_rows n) name k d hn hk

change_of_row : (n : ℕ) (name : List ℕ) (k : Kind) (d : Data) → name_of key_rows n ≡ Some name → kind_of key_rows n ≡ Some k → change_in (row_of key_rows n) d ≡ optional (or_null (value_as k)) name (get name d)
change_of_row n name k d hn hk = change_in_row (row_of key_rows n) name k d hn hk

-- ---- a member that may be absent

opt_none : {A : Type 0} (f : Data → Result A Refusal) (name : List ℕ) (o : Option Data) → o ≡ None → optional f name o ≡ Ok None
unfolding optional
opt_none f name o e = rw e

opt_ok : {A : Type 0} (f : Data → Result A Refusal) (name : List ℕ) (o : Option Data) (d : Data) (x : A) → o ≡ Some d → f d ≡ Ok x → optional f name o ≡ Ok (Some x)
unfolding optional
opt_ok f name o d x e h = rw (e, h)

opt_err : {A : Type 0} (f : Data → Result A Refusal) (name : List ℕ) (o : Option Data) (d : Data) (part whole : WalkErr) → o ≡ Some d → IsUnder (dot name) part whole → IfSome (refusal_of part) (λ r. f d ≡ Err r) → IfSome (refusal_of whole) (λ r. optional f name o ≡ Err r)
unfolding optional
opt_err f name o d NoMemory whole e u h = rw u tt
opt_err f name o d (Refused a p) NoMemory e u h = tt
opt_err f name o d (Refused a p) (Refused b q) e u h = rw (e, h) (ap Err (sym u))

none_in : (o : Option Entry) (name : List ℕ) (d : Data) → option_map (λ row. row.name) o ≡ Some name → get name d ≡ None → (attr_in o d ≡ Ok None) × (change_in o d ≡ Ok None)
unfolding attr_in change_in
none_in None name d hn hg = cc
none_in (Some row) name d hn hg =
    let same : row.name ≡ name = cc in
    let gone : get row.name d ≡ None = rw same hg in
    (opt_none (value_in row.kind) row.name (get row.name d) gone, opt_none (or_null (value_in row.kind)) row.name (get row.name d) gone)

pub attr_none : (n : ℕ) (name : List ℕ) (d : Data) → name_of key_rows n ≡ Some name → get name d ≡ None → attr_in (row_of key_rows n) d ≡ Ok None
attr_none n name d hn hg = (none_in (row_of key_rows n) name d hn hg).0

pub change_none : (n : ℕ) (name : List ℕ) (d : Data) → name_of key_rows n ≡ Some name → get name d ≡ None → change_in (row_of key_rows n) d ≡ Ok None
change_none n name d hn hg = (none_in (row_of key_rows n) name d hn hg).1

pub attr_ok : (n : ℕ) (name : List ℕ) (k : Kind) (d x : Data) (v : Value) → name_of key_rows n ≡ Some name → kind_of key_rows n ≡ Some k → get name d ≡ Some x → value_as k x ≡ Ok v → attr_in (row_of key_rows n) d ≡ Ok (Some v)
attr_ok n name k d x v hn hk hg h = attr_of_row n name k d hn hk ∙ opt_ok (value_as k) name (get name d) x v hg h

pub change_ok : (n : ℕ) (name : List ℕ) (k : Kind) (d x : Data) (v : Option Value) → name_of key_rows n ≡ Some name → kind_of key_rows n ≡ Some k → get name d ≡ Some x → or_null (value_as k) x ≡ Ok v → change_in (row_of key_rows n) d ≡ Ok (Some v)
change_ok n name k d x v hn hk hg h = change_of_row n name k d hn hk ∙ opt_ok (or_null (value_as k)) name (get name d) x v hg h

pub attr_refused : (n : ℕ) (name : List ℕ) (k : Kind) (d x : Data) (part whole : WalkErr) → name_of key_rows n ≡ Some name → kind_of key_rows n ≡ Some k → get name d ≡ Some x → IsUnder (dot name) part whole
    → IfSome (refusal_of part) (λ r. value_as k x ≡ Err r) → IfSome (refusal_of whole) (λ r. attr_in (row_of key_rows n) d ≡ Err r)
attr_refused n name k d x part whole hn hk hg u h =
    let P : Result (Option Value) Refusal → Type 0 = λ read. IfSome (refusal_of whole) (λ r. read ≡ Err r) in
    subst P (sym (attr_of_row n name k d hn hk)) (opt_err (value_as k) name (get name d) x part whole hg u h)

pub change_refused : (n : ℕ) (name : List ℕ) (k : Kind) (d x : Data) (part whole : WalkErr) → name_of key_rows n ≡ Some name → kind_of key_rows n ≡ Some k → get name d ≡ Some x → IsUnder (dot name) part whole
    → IfSome (refusal_of part) (λ r. or_null (value_as k) x ≡ Err r) → IfSome (refusal_of whole) (λ r. change_in (row_of key_rows n) d ≡ Err r)
change_refused n name k d x part whole hn hk hg u h =
    let P : Result (Option (Option Value)) Refusal → Type 0 = λ read. IfSome (refusal_of whole) (λ r. read ≡ Err r) in
    subst P (sym (change_of_row n name k d hn hk)) (opt_err (or_null (value_as k)) name (get name d) x part whole hg u h)

-- ---- two steps one after the other

two_ok : {A B C : Type 0} (r : Result A Refusal) (f : A → Result B Refusal) (g : A → B → C) (x : A) (y : B) → r ≡ Ok x → f x ≡ Ok y → (r >>= λ a. f a >>= λ b. Ok (g a b)) ≡ Ok (g x y)
two_ok r f g x y e h = rw (e, h)

two_err : {A B C : Type 0} (r : Result A Refusal) (f : A → Result B Refusal) (g : A → B → C) (x : A) (z : Refusal) → r ≡ Ok x → f x ≡ Err z → (r >>= λ a. f a >>= λ b. Ok (g a b)) ≡ Err z
two_err r f g x z e h = rw (e, h)

-- one row more
pub attrs_more : (n : ℕ) (d : Data) (attrs : List (ℕ × Value)) (found : Option Value) → attrs_to n d ≡ Ok attrs → attr_in (row_of key_rows (n + 1)) d ≡ Ok found → attrs_to (n + 1) d ≡ Ok (with_attr (n + 1) found attrs)
attrs_more n d attrs found before now =
    let P : ℕ → Type 0 = λ m. attr_in (row_of key_rows m) d ≡ Ok found in
    let Q : ℕ → Type 0 = λ m. attrs_to m d ≡ Ok (with_attr m found attrs) in
    subst Q (sym (add-one n)) (two_ok (attrs_to n d) (λ _. attr_in (row_of key_rows (suc n)) d) (λ old new. with_attr (suc n) new old) attrs found before (subst P (add-one n) now))

pub changes_more : (n : ℕ) (d : Data) (changes : List AttrChange) (found : Option (Option Value)) → changes_to n d ≡ Ok changes → change_in (row_of key_rows (n + 1)) d ≡ Ok found → changes_to (n + 1) d ≡ Ok (with_change (n + 1) found changes)
changes_more n d changes found before now =
    let P : ℕ → Type 0 = λ m. change_in (row_of key_rows m) d ≡ Ok found in
    let Q : ℕ → Type 0 = λ m. changes_to m d ≡ Ok (with_change m found changes) in
    subst Q (sym (add-one n)) (two_ok (changes_to n d) (λ _. change_in (row_of key_rows (suc n)) d) (λ old new. with_change (suc n) new old) changes found before (subst P (add-one n) now))

attrs_stop : (n k : ℕ) (d : Data) (r : Refusal) → attrs_to n d ≡ Err r → attrs_to (n + k) d ≡ Err r
attrs_stop n zero d r e = rw add-zero e
attrs_stop n (suc k) d r e = rw (add-suc, attrs_stop n k d r e)

changes_stop : (n k : ℕ) (d : Data) (r : Refusal) → changes_to n d ≡ Err r → changes_to (n + k) d ≡ Err r
changes_stop n zero d r e = rw add-zero e
changes_stop n (suc k) d r e = rw (add-suc, changes_stop n k d r e)

-- a row was refused
pub attrs_err : (n count : ℕ) (d : Data) (attrs : List (ℕ × Value)) (r : Refusal) → n < count → attrs_to n d ≡ Ok attrs → attr_in (row_of key_rows (n + 1)) d ≡ Err r → attrs_to count d ≡ Err r
attrs_err n count d attrs r h before now =
    let P : ℕ → Type 0 = λ m. attr_in (row_of key_rows m) d ≡ Err r in
    let Q : ℕ → Type 0 = λ m. attrs_to m d ≡ Err r in
    let here : attrs_to (n + 1) d ≡ Err r = subst Q (sym (add-one n)) (two_err (attrs_to n d) (λ _. attr_in (row_of key_rows (suc n)) d) (λ old new. with_attr (suc n) new old) attrs r before (subst P (add-one n) now)) in
    let whole : count ≡ (n + 1) + (count - (n + 1)) = omega arith in
    rw whole (attrs_stop (n + 1) (count - (n + 1)) d r here)

pub changes_err : (n count : ℕ) (d : Data) (changes : List AttrChange) (r : Refusal) → n < count → changes_to n d ≡ Ok changes → change_in (row_of key_rows (n + 1)) d ≡ Err r → changes_to count d ≡ Err r
changes_err n count d changes r h before now =
    let P : ℕ → Type 0 = λ m. change_in (row_of key_rows m) d ≡ Err r in
    let Q : ℕ → Type 0 = λ m. changes_to m d ≡ Err r in
    let here : changes_to (n + 1) d ≡ Err r = subst Q (sym (add-one n)) (two_err (changes_to n d) (λ _. change_in (row_of key_rows (suc n)) d) (λ old new. with_change (suc n) new old) changes r before (subst P (add-one n) now)) in
    let whole : count ≡ (n + 1) + (count - (n + 1)) = omega arith in
    rw whole (changes_stop (n + 1) (count - (n + 1)) d r here)
