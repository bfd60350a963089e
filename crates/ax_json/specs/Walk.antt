-- What a JSON value is read as, or the first refusal. Each path begins at the value that is read.
use Rattle.std.specs.Prelude.{◌&&◌, ◌==◌, ◌+◌, ℕ, ℤ, pos, negsuc, int_le, List, [], ◌∷◌, ◌++◌, Bool, true, not, nat_le, if◌then◌else◌, Option, Some, None, Result, Ok, Err, bytes_eq, ⊤}
use Rattle.std.specs.List.{list_any}
use Rattle.std.specs.Str.{chars}
use Rattle.std.specs.Fmt.{decimal}
use Rattle.serde_json.specs.Data.{Data, Items, no_items, item, Members, no_members, member}
use Rattle.serde_json.specs.Find.{get, as_number, as_str, as_bool, as_array, as_object, as_u64, as_i64}
use Rattle.ax_json.specs.declared.refusal.Fault.{Fault}
use Rattle.ax_json.specs.declared.refusal.Fault.TheVariants.{UnknownMember, Missing, BadType, BadNumber}
use Rattle.ax_json.specs.Refused.{Refusal, ◌>>=◌, within}

-- the step to a member of this name
abbrev pub dot : List ℕ → List ℕ
dot name = 46 ∷ name

-- the step to an item
abbrev pub place : ℕ → List ℕ
place i = 91 ∷ decimal i ++ 93 ∷ []

abbrev pub refused : {A : Type 0} → Fault → List ℕ → Result A Refusal
refused fault path = Err (record { fault = fault; path = path })

abbrev pub present : {A : Type 0} → Fault → Option A → Result A Refusal
present fault None = refused fault []
present fault (Some x) = Ok x

-- ---- values

-- a whole number from low to high
unfoldable pub number_in : ℕ → ℕ → Data → Result ℕ Refusal
number_in low high d = do
  n ← present BadType (as_number d)
  k ← present BadNumber (as_u64 n)
  if nat_le low k && nat_le k high then Ok k else refused BadNumber []

-- a whole number of 32 bits with a sign
unfoldable pub int_of : Data → Result ℤ Refusal
int_of d = do
  n ← present BadType (as_number d)
  z ← present BadNumber (as_i64 n)
  if int_le (negsuc 2147483647) z && int_le z (pos 2147483647) then Ok z else refused BadNumber []

unfoldable pub node_id : Data → Result ℕ Refusal
node_id d = number_in 1 2147483647 d

unfoldable pub tree_id : Data → Result ℕ Refusal
tree_id d = number_in 1 1000 d

-- the same, where 0 means none
unfoldable pub node_or_none : Data → Result (Option ℕ) Refusal
node_or_none d = number_in 0 2147483647 d >>= λ n. Ok (if n == 0 then None else Some n)

unfoldable pub tree_or_none : Data → Result (Option ℕ) Refusal
tree_or_none d = number_in 0 1000 d >>= λ n. Ok (if n == 0 then None else Some n)

unfoldable pub flag_of : Data → Result Bool Refusal
flag_of d = present BadType (as_bool d)

-- a text's bytes, and its scalars
unfoldable pub str_of : Data → Result (List ℕ) Refusal
str_of d = present BadType (as_str d)

unfoldable pub text_of : Data → Result (List ℕ) Refusal
text_of d = str_of d >>= λ bytes. Ok (chars bytes)

unfoldable pub array_of : Data → Result Items Refusal
array_of d = present BadType (as_array d)

unfoldable pub object_of : Data → Result Members Refusal
object_of d = present BadType (as_object d)

-- ---- members

-- each member's name is among these
abbrev pub only : List (List ℕ) → Members → Bool
only names no_members = true
only names (member k d ms) = list_any (λ n. bytes_eq n k) names && only names ms

-- an object with no other members than these
unfoldable pub known : List (List ℕ) → Data → Result ⊤ Refusal
known names d = do
  ms ← object_of d
  if only names ms then Ok tt else refused UnknownMember []

-- a member that has to be there, read by f
unfoldable pub required : {A : Type 0} → (Data → Result A Refusal) → List ℕ → Option Data → Result A Refusal
required f name None = refused Missing (dot name)
required f name (Some d) = within (dot name) (f d)

-- a member that may be absent, read by f
unfoldable pub optional : {A : Type 0} → (Data → Result A Refusal) → List ℕ → Option Data → Result (Option A) Refusal
optional f name None = Ok None
optional f name (Some d) = within (dot name) (f d) >>= λ x. Ok (Some x)

-- the text that says which members an object has
unfoldable pub tag_of : List ℕ → Data → Result (List ℕ) Refusal
tag_of name d = do
  _ ← object_of d
  required str_of name (get name d)

-- no name stands twice
abbrev pub differ : List (List ℕ) → Bool
differ [] = true
differ (n ∷ names) = not (list_any (λ m. bytes_eq n m) names) && differ names

-- ---- items

-- each item from number i on, read by f
abbrev pub each : {A : Type 0} → (Data → Result A Refusal) → ℕ → Items → Result (List A) Refusal
each f i no_items = Ok []
each f i (item d ds) = within (place i) (f d) >>= λ x. each f (i + 1) ds >>= λ xs. Ok (x ∷ xs)

-- an array, each of whose items is read by f
unfoldable pub list_of : {A : Type 0} → (Data → Result A Refusal) → Data → Result (List A) Refusal
list_of f d = array_of d >>= λ items. each f 0 items
