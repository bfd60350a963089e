-- The operations of a frame.
use Rattle.std.specs.Prelude.{ℕ, [], ◌∷◌, codes, Option, Result, Ok}
use Rattle.serde_json.specs.Data.{Data}
use Rattle.serde_json.specs.Find.{get}
use Rattle.ax_attrs.specs.declared.table.Version.{Version}
use Rattle.ax_node.specs.declared.node.NodeData.{NodeData}
use Rattle.ax_tree.specs.declared.edit.SetNode.{SetNode}
use Rattle.ax_tree.specs.declared.edit.Edit.TheVariants as edits
use Rattle.ax_ask.specs.declared.line.OpName.TheVariants.{Root, Insert, Remove, Move, Set}
use Rattle.ax_ask.specs.declared.op.FrameOpName.{FrameOpName}
use Rattle.ax_ask.specs.declared.op.FrameOpName.TheVariants.{Edit, Data as News, Touch, TouchBelow, Pass}
use Rattle.ax_ask.specs.Words.{frame_op_named}
use Rattle.ax_ask.specs.declared.op.FrameOp.{FrameOp}
use Rattle.ax_ask.specs.declared.op.FrameOp.TheVariants as ops
use Rattle.ax_json.specs.declared.refusal.Fault.TheVariants.{BadName}
use Rattle.ax_json.specs.Refused.{Refusal, ◌>>=◌, within}
use Rattle.ax_json.specs.Walk.{present, dot, number_in, node_id, known, required, tag_of}
use Rattle.ax_forms.specs.Looks.{node_from, set_from}
use Rattle.ax_forms.specs.TreeNews.{data_op}

abbrev pub node_in : Version → ℕ → Data → Result NodeData Refusal
node_in version id d = node_from version id (get (codes "role") d) (get (codes "states") d) (get (codes "attrs") d) (get (codes "rect") d)

abbrev pub set_in : Version → ℕ → Data → Result SetNode Refusal
set_in version id d = set_from version id (get (codes "role") d) (get (codes "states") d) (get (codes "attrs") d) (get (codes "rect") d)

unfoldable pub root_op : Version → Data → Result FrameOp Refusal
root_op version d = do
  _ ← known (codes "op" ∷ codes "node" ∷ codes "role" ∷ codes "states" ∷ codes "attrs" ∷ codes "rect" ∷ []) d
  id ← required node_id (codes "node") (get (codes "node") d)
  node ← node_in version id d
  Ok (ops.Edit (edits.Root node))

-- the members of `insert`, by the values at their names
unfoldable pub insert_from : Version → Option Data → Option Data → Option Data → Option Data → Option Data → Option Data → Option Data → Result FrameOp Refusal
insert_from version parent_at index_at node_at role_at states_at attrs_at rect_at = do
  parent ← required node_id (codes "parent") parent_at
  index ← required (number_in 0 2147483647) (codes "index") index_at
  id ← required node_id (codes "node") node_at
  node ← node_from version id role_at states_at attrs_at rect_at
  Ok (ops.Edit (edits.Insert parent index node))

unfoldable pub insert_op : Version → Data → Result FrameOp Refusal
insert_op version d = do
  _ ← known (codes "op" ∷ codes "parent" ∷ codes "index" ∷ codes "node" ∷ codes "role" ∷ codes "states" ∷ codes "attrs" ∷ codes "rect" ∷ []) d
  insert_from version (get (codes "parent") d) (get (codes "index") d) (get (codes "node") d) (get (codes "role") d) (get (codes "states") d) (get (codes "attrs") d) (get (codes "rect") d)

-- an operation that names a node alone
unfoldable pub node_alone : Data → Result ℕ Refusal
node_alone d = do
  _ ← known (codes "op" ∷ codes "node" ∷ []) d
  required node_id (codes "node") (get (codes "node") d)

unfoldable pub move_op : Data → Result FrameOp Refusal
move_op d = do
  _ ← known (codes "op" ∷ codes "node" ∷ codes "parent" ∷ codes "index" ∷ []) d
  node ← required node_id (codes "node") (get (codes "node") d)
  parent ← required node_id (codes "parent") (get (codes "parent") d)
  index ← required (number_in 0 2147483647) (codes "index") (get (codes "index") d)
  Ok (ops.Edit (edits.Move node parent index))

unfoldable pub set_op : Version → Data → Result FrameOp Refusal
set_op version d = do
  _ ← known (codes "op" ∷ codes "node" ∷ codes "role" ∷ codes "states" ∷ codes "attrs" ∷ codes "rect" ∷ []) d
  id ← required node_id (codes "node") (get (codes "node") d)
  changes ← set_in version id d
  Ok (ops.Edit (edits.Set changes))

unfoldable pub pass_op : Data → Result FrameOp Refusal
pass_op d = do
  _ ← known (codes "op" ∷ []) d
  Ok ops.Pass

unfoldable pub op_as : Version → FrameOpName → Data → Result FrameOp Refusal
op_as version (Edit Root) d = root_op version d
op_as version (Edit Insert) d = insert_op version d
op_as version (Edit Remove) d = node_alone d >>= λ node. Ok (ops.Edit (edits.Remove node))
op_as version (Edit Move) d = move_op d
op_as version (Edit Set) d = set_op version d
op_as version News d = data_op d >>= λ news. Ok (ops.Edit (edits.Tree news))
op_as version Touch d = node_alone d >>= λ node. Ok (ops.Touch node)
op_as version TouchBelow d = node_alone d >>= λ node. Ok (ops.TouchBelow node)
op_as version Pass d = pass_op d

-- An operation's members are known once its name is read.
unfoldable pub op_of : Version → Data → Result FrameOp Refusal
op_of version d = do
  name ← tag_of (codes "op") d
  which ← within (dot (codes "op")) (present BadName (frame_op_named name))
  op_as version which d
