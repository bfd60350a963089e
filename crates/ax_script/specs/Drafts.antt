-- A script whose order is still a text.
use Rattle.std.specs.Prelude.{◌==◌, [], ◌∷◌, Bool, false, codes, if◌then◌else◌, Option, None, option_and_then, option_map, unwrap_or, Result, Ok}
use Rattle.serde_json.specs.Data.{Data}
use Rattle.serde_json.specs.Find.{get, as_number, as_u64}
use Rattle.ax_attrs.specs.declared.table.Version.{Version}
use Rattle.ax_attrs.specs.declared.table.Version.TheVariants.{One, Two}
use Rattle.ax_json.specs.Refused.{Refusal, ◌>>=◌}
use Rattle.ax_json.specs.Walk.{number_in, list_of, str_of, known, required, optional}
use Rattle.ax_script.specs.declared.draft.Draft.{Draft}
use Rattle.ax_script.specs.Trees.{has_tree}
use Rattle.ax_script.specs.Frames.{frames_of}
use Rattle.ax_script.specs.Browser.{browser_op, action_of}
use Rattle.ax_script.specs.Readers.{readers_of}

unfoldable pub version_of : Data → Result Version Refusal
version_of d = number_in 1 2 d >>= λ n. Ok (if n == 1 then One else Two)

-- the members, by the values at their names
unfoldable pub draft_from : Option Data → Option Data → Option Data → Option Data → Option Data → Option Data → Result Draft Refusal
draft_from version_at frames_at browser_at readers_at order_at actions_at = do
  version ← required version_of (codes "version") version_at
  frames ← required (frames_of version) (codes "frames") frames_at
  browser ← optional (list_of (browser_op version (has_tree frames))) (codes "browser") browser_at
  readers ← optional (readers_of version) (codes "readers") readers_at
  order ← optional str_of (codes "order") order_at
  actions ← optional (list_of (action_of (has_tree frames))) (codes "actions") actions_at
  Ok (record { version = version; frames = frames; browser = unwrap_or browser []; readers = unwrap_or readers []; order = unwrap_or order []; actions = unwrap_or actions [] })

-- the member `version` is the number 1
abbrev pub is_version_one : Data → Bool
is_version_one d = unwrap_or (option_map (λ n. n == 1) (option_and_then as_u64 (option_and_then as_number (get (codes "version") d)))) false

-- Where the version is 1 there are no actions.
unfoldable pub draft_one : Data → Result Draft Refusal
draft_one d = do
  _ ← known (codes "version" ∷ codes "frames" ∷ codes "browser" ∷ codes "readers" ∷ codes "order" ∷ []) d
  draft_from (get (codes "version") d) (get (codes "frames") d) (get (codes "browser") d) (get (codes "readers") d) (get (codes "order") d) None

unfoldable pub draft_two : Data → Result Draft Refusal
draft_two d = do
  _ ← known (codes "version" ∷ codes "frames" ∷ codes "browser" ∷ codes "readers" ∷ codes "order" ∷ codes "actions" ∷ []) d
  draft_from (get (codes "version") d) (get (codes "frames") d) (get (codes "browser") d) (get (codes "readers") d) (get (codes "order") d) (get (codes "actions") d)

unfoldable pub draft_of : Data → Result Draft Refusal
draft_of d = if is_version_one d then draft_one d else draft_two d
