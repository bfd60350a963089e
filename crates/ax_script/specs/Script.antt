-- The script that bytes are, or the first refusal.
use Rattle.std.specs.Prelude.{◌≡◌, ◌⊎◌, ◌+◌, ◌-◌, ◌^◌, ℕ, List, ◌∷◌, length, sum_by, min, nat_lt, if◌then◌else◌, Option, Some, None, Result, Ok, Err}
use Rattle.std.specs.Str.{chars, is_utf8}
use Rattle.serde_json.specs.Data.{Data}
use Rattle.serde_json.specs.Read.{read}
use Rattle.ax_ask.specs.declared.op.Item.{Item}
use Rattle.ax_json.specs.declared.refusal.Fault.{Fault}
use Rattle.ax_json.specs.declared.refusal.Fault.TheVariants as faults
use Rattle.ax_json.specs.Refused.{Refusal}
use Rattle.ax_script.specs.declared.draft.Draft.{Draft}
use Rattle.ax_script.specs.declared.error.ScriptErr.{ScriptErr}
use Rattle.ax_script.specs.declared.error.ScriptErr.TheVariants.{TooBig, NotJson, UnknownMember, Missing, BadType, BadCount, BadNumber, BadName, TooManyOps, BadOrder, NoMemory}
use Rattle.ax_script.specs.declared.script.Script.{Script}
use Rattle.ax_script.specs.Drafts.{draft_of}
use Rattle.ax_script.specs.Order.{order_of}
use Rattle.ax_script.specs.Trees.{has_tree}

-- a refusal with its path from `$`
abbrev pub told_at : Fault → List ℕ → ScriptErr
told_at faults.UnknownMember path = UnknownMember path
told_at faults.Missing path = Missing path
told_at faults.BadType path = BadType path
told_at faults.BadCount path = BadCount path
told_at faults.BadNumber path = BadNumber path
told_at faults.BadName path = BadName path

abbrev pub told : Refusal → ScriptErr
told r = told_at r.fault (chars (36 ∷ r.path))

-- how many operations, queries and actions there are; a number beyond the last of `usize` stands at that one
unfoldable pub ops_count : Draft → ℕ
ops_count draft =
    min (sum_by (λ f. length f.ops) draft.frames + length draft.browser + sum_by (λ r. length r) draft.readers + length draft.actions) (2 ^ 64 - 1)

abbrev pub with_order : Draft → Result (List Item) ℕ → Result Script ScriptErr
with_order draft (Ok items) = Ok (record { version = draft.version; frames = draft.frames; browser = draft.browser; readers = draft.readers; order = items; actions = draft.actions })
with_order draft (Err i) = Err (BadOrder i)

unfoldable pub finished : Draft → Result Script ScriptErr
finished draft =
    if nat_lt 1000000 (ops_count draft) then Err (TooManyOps (ops_count draft)) else with_order draft (order_of (has_tree draft.frames) (length draft.readers) draft.order)

abbrev pub drafted : Result Draft Refusal → Result Script ScriptErr
drafted (Ok draft) = finished draft
drafted (Err r) = Err (told r)

-- the value that the bytes read as
unfoldable pub json_of : List ℕ → Option Data
json_of bytes = if is_utf8 bytes then read bytes else None

abbrev pub from_json : Option Data → Result Script ScriptErr
from_json None = Err NotJson
from_json (Some d) = drafted (draft_of d)

-- the script that the bytes are, or the first refusal: too many bytes, no JSON, the walk, too many operations, the order
unfoldable pub script : List ℕ → Result Script ScriptErr
script bytes = if nat_lt 67108864 (length bytes) then Err (TooBig 67108865) else from_json (json_of bytes)

-- what a function returned is what the bytes are, unless memory ran out
abbrev pub GivesScript : Result Script ScriptErr → Result Script ScriptErr → Type 0
GivesScript (Ok s) read = read ≡ Ok s
GivesScript (Err e) read = (e ≡ NoMemory) ⊎ (read ≡ Err e)
