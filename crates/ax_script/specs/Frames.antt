-- The frames of a script, whose trees differ.
use Rattle.std.specs.Prelude.{◌&&◌, ℕ, List, [], ◌∷◌, ◌++◌, Bool, codes, length, nat_le, if◌then◌else◌, Result, Ok}
use Rattle.serde_json.specs.Data.{Data, Items, no_items, item}
use Rattle.serde_json.specs.Events.{items_len}
use Rattle.serde_json.specs.Find.{get}
use Rattle.ax_attrs.specs.declared.table.Version.{Version}
use Rattle.ax_json.specs.declared.refusal.Fault.TheVariants.{BadCount, BadNumber}
use Rattle.ax_json.specs.Refused.{Refusal, ◌>>=◌, within}
use Rattle.ax_json.specs.Walk.{refused, dot, place, array_of, list_of, known, required, tree_id}
use Rattle.ax_forms.specs.Edits.{op_of}
use Rattle.ax_script.specs.declared.script.FrameScript.{FrameScript}
use Rattle.ax_script.specs.Trees.{has_tree}

-- a frame whose tree isn't taken
unfoldable pub frame_of : Version → (ℕ → Bool) → Data → Result FrameScript Refusal
frame_of version taken d = do
  _ ← known (codes "tree" ∷ codes "ops" ∷ []) d
  tree ← required tree_id (codes "tree") (get (codes "tree") d)
  if taken tree then refused BadNumber (dot (codes "tree")) else (required (list_of (op_of version)) (codes "ops") (get (codes "ops") d) >>= λ ops. Ok (record { tree = tree; ops = ops }))

-- the frames after the earlier ones
abbrev pub frames_after : Version → List FrameScript → Items → Result (List FrameScript) Refusal
frames_after version earlier no_items = Ok earlier
frames_after version earlier (item d ds) = within (place (length earlier)) (frame_of version (has_tree earlier) d) >>= λ f. frames_after version (earlier ++ f ∷ []) ds

-- 1 to 1000 frames
unfoldable pub frames_of : Version → Data → Result (List FrameScript) Refusal
frames_of version d = do
  items ← array_of d
  if nat_le 1 (items_len items) && nat_le (items_len items) 1000 then frames_after version [] items else refused BadCount []
