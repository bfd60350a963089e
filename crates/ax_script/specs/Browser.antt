-- The operations of the browser, and actions: both are at trees that a frame has.
use Rattle.std.specs.Prelude.{ℕ, [], ◌∷◌, Bool, codes, if◌then◌else◌, Option, Result, Ok}
use Rattle.serde_json.specs.Data.{Data}
use Rattle.serde_json.specs.Find.{get}
use Rattle.ax_attrs.specs.declared.table.Version.{Version}
use Rattle.ax_base.specs.declared.position.Place.{Place}
use Rattle.ax_ask.specs.declared.op.BrowserOp.TheVariants as ops
use Rattle.ax_ask.specs.declared.op.BrowserOpName.{BrowserOpName}
use Rattle.ax_ask.specs.declared.op.BrowserOpName.TheVariants.{Ask, Destroy, Probe}
use Rattle.ax_ask.specs.Words.{browser_op_named, do_named}
use Rattle.ax_ask.specs.declared.op.TimedOp.{TimedOp}
use Rattle.ax_ask.specs.declared.action.Action.{Action}
use Rattle.ax_ask.specs.declared.action.DoName.{DoName}
use Rattle.ax_ask.specs.declared.action.DoName.TheVariants as does
use Rattle.ax_ask.specs.declared.action.What.{What}
use Rattle.ax_ask.specs.declared.action.What.TheVariants as whats
use Rattle.ax_json.specs.declared.refusal.Fault.TheVariants.{BadNumber, BadName}
use Rattle.ax_json.specs.Refused.{Refusal, ◌>>=◌, within}
use Rattle.ax_json.specs.Walk.{refused, present, dot, known, required, tag_of, tree_id, node_id, text_of}
use Rattle.ax_forms.specs.Queries.{after_of}
use Rattle.ax_forms.specs.Updates.{update_of}

-- the member `tree`, which a frame has to have
unfoldable pub known_tree : (ℕ → Bool) → Option Data → Result ℕ Refusal
known_tree knows found = do
  tree ← required tree_id (codes "tree") found
  if knows tree then Ok tree else refused BadNumber (dot (codes "tree"))

unfoldable pub ask_op : (ℕ → Bool) → Data → Result TimedOp Refusal
ask_op knows d = do
  _ ← known (codes "op" ∷ codes "tree" ∷ codes "after" ∷ []) d
  tree ← known_tree knows (get (codes "tree") d)
  after ← after_of (get (codes "after") d)
  Ok (record { after = after; op = ops.Ask tree })

unfoldable pub destroy_op : (ℕ → Bool) → Data → Result TimedOp Refusal
destroy_op knows d = do
  _ ← known (codes "op" ∷ codes "tree" ∷ codes "after" ∷ []) d
  tree ← known_tree knows (get (codes "tree") d)
  after ← after_of (get (codes "after") d)
  Ok (record { after = after; op = ops.Destroy tree })

unfoldable pub probe_op : Version → (ℕ → Bool) → Data → Result TimedOp Refusal
probe_op version knows d = do
  _ ← known (codes "op" ∷ codes "tree" ∷ codes "after" ∷ codes "update" ∷ []) d
  tree ← known_tree knows (get (codes "tree") d)
  after ← after_of (get (codes "after") d)
  update ← required (update_of version tree) (codes "update") (get (codes "update") d)
  Ok (record { after = after; op = ops.Probe tree update })

unfoldable pub browser_as : Version → (ℕ → Bool) → BrowserOpName → Data → Result TimedOp Refusal
browser_as version knows Ask d = ask_op knows d
browser_as version knows Destroy d = destroy_op knows d
browser_as version knows Probe d = probe_op version knows d

unfoldable pub browser_op : Version → (ℕ → Bool) → Data → Result TimedOp Refusal
browser_op version knows d = do
  name ← tag_of (codes "op") d
  which ← within (dot (codes "op")) (present BadName (browser_op_named name))
  browser_as version knows which d

-- ---- actions

-- where an action that says no more is done
unfoldable pub place_acted : (ℕ → Bool) → Data → Result Place Refusal
place_acted knows d = do
  _ ← known (codes "do" ∷ codes "tree" ∷ codes "node" ∷ []) d
  tree ← known_tree knows (get (codes "tree") d)
  node ← required node_id (codes "node") (get (codes "node") d)
  Ok (record { tree = tree; node = node })

abbrev pub acts : What → Place → Action
acts what p = record { tree = p.tree; node = p.node; what = what }

unfoldable pub set_value : (ℕ → Bool) → Data → Result Action Refusal
set_value knows d = do
  _ ← known (codes "do" ∷ codes "tree" ∷ codes "node" ∷ codes "value" ∷ []) d
  tree ← known_tree knows (get (codes "tree") d)
  node ← required node_id (codes "node") (get (codes "node") d)
  value ← required text_of (codes "value") (get (codes "value") d)
  Ok (record { tree = tree; node = node; what = whats.SetValue value })

unfoldable pub action_as : (ℕ → Bool) → DoName → Data → Result Action Refusal
action_as knows does.Focus d = place_acted knows d >>= λ p. Ok (acts whats.Focus p)
action_as knows does.SetValue d = set_value knows d
action_as knows does.Scroll d = place_acted knows d >>= λ p. Ok (acts whats.Scroll p)

unfoldable pub action_of : (ℕ → Bool) → Data → Result Action Refusal
action_of knows d = do
  name ← tag_of (codes "do") d
  which ← within (dot (codes "do")) (present BadName (do_named name))
  action_as knows which d
