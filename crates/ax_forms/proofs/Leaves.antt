-- Each node that the operations of a frame put is a leaf: what is read of a node has no children.
use Rattle.std.proofs.Common.{◌≡◌, ◌+◌, ℕ, [], ◌∷◌, codes, Option, Result, IfOk, refl}
use Rattle.serde_json.specs.Data.{Data, Items, no_items, item}
use Rattle.serde_json.specs.Find.{get}
use Rattle.ax_attrs.specs.declared.table.Version.{Version}
use Rattle.ax_node.specs.declared.node.NodeData.{NodeData}
use Rattle.ax_ask.specs.Calls.{IsLeafOp, HaveLeaves}
use Rattle.ax_json.specs.declared.refusal.Fault.TheVariants.{BadName}
use Rattle.ax_json.specs.Refused.{Refusal, within}
use Rattle.ax_json.specs.Walk.{required, optional, list_of, each, dot, place, present, array_of, known, tag_of, node_id, number_in}
use Rattle.ax_json.proofs.Holds.{then, then_with, inside}
use Rattle.ax_ask.specs.declared.line.OpName.TheVariants.{Root, Insert, Remove, Move, Set}
use Rattle.ax_ask.specs.declared.op.FrameOpName.{FrameOpName}
use Rattle.ax_ask.specs.declared.op.FrameOpName.TheVariants.{Edit, Data as News, Touch, TouchBelow, Pass}
use Rattle.ax_ask.specs.Words.{frame_op_named}
use Rattle.ax_forms.specs.Looks.{role_of, states_of, attrs_of, node_from}
use Rattle.ax_forms.specs.Places.{rect_of}
use Rattle.ax_forms.specs.TreeNews.{data_op}
use Rattle.ax_forms.specs.Edits.{node_in, set_in, node_alone, root_op, insert_from, insert_op, move_op, set_op, pass_op, op_as, op_of}

abbrev IsLeaf : NodeData → Type 0
IsLeaf n = n.children ≡ []

node_read : (v : Version) (id : ℕ) (role_at states_at attrs_at rect_at : Option Data) → IfOk (node_from v id role_at states_at attrs_at rect_at) IsLeaf
unfolding node_from
node_read v id role_at states_at attrs_at rect_at =
    then IsLeaf (optional (role_of v) (codes "role") role_at) _ (λ role. then IsLeaf (optional (states_of v) (codes "states") states_at) _ (λ states. then IsLeaf (optional (attrs_of v) (codes "attrs") attrs_at) _ (λ attrs. then IsLeaf (optional rect_of (codes "rect") rect_at) _ (λ rect. refl))))

abbrev id_at : Option Data → Result ℕ Refusal
id_at found = required node_id (codes "node") found

abbrev parent_at : Option Data → Result ℕ Refusal
parent_at found = required node_id (codes "parent") found

abbrev index_at : Option Data → Result ℕ Refusal
index_at found = required (number_in 0 2147483647) (codes "index") found

root_read : (v : Version) (d : Data) → IfOk (root_op v d) IsLeafOp
unfolding root_op
root_read v d =
    then IsLeafOp (known (codes "op" ∷ codes "node" ∷ codes "role" ∷ codes "states" ∷ codes "attrs" ∷ codes "rect" ∷ []) d) _ (λ _. then IsLeafOp (id_at (get (codes "node") d)) _ (λ id. then_with IsLeaf IsLeafOp (node_in v id d) _ (node_read v id (get (codes "role") d) (get (codes "states") d) (get (codes "attrs") d) (get (codes "rect") d)) (λ n leaf. leaf)))

insert_from_read : (v : Version) (p i n role states attrs rect : Option Data) → IfOk (insert_from v p i n role states attrs rect) IsLeafOp
unfolding insert_from
insert_from_read v p i n role states attrs rect =
    then IsLeafOp (parent_at p) _ (λ parent. then IsLeafOp (index_at i) _ (λ index. then IsLeafOp (id_at n) _ (λ id. then_with IsLeaf IsLeafOp (node_from v id role states attrs rect) _ (node_read v id role states attrs rect) (λ node leaf. leaf))))

insert_read : (v : Version) (d : Data) → IfOk (insert_op v d) IsLeafOp
unfolding insert_op
insert_read v d =
    then IsLeafOp (known (codes "op" ∷ codes "parent" ∷ codes "index" ∷ codes "node" ∷ codes "role" ∷ codes "states" ∷ codes "attrs" ∷ codes "rect" ∷ []) d) _
    (λ _. insert_from_read v (get (codes "parent") d) (get (codes "index") d) (get (codes "node") d) (get (codes "role") d) (get (codes "states") d) (get (codes "attrs") d) (get (codes "rect") d))

move_read : (d : Data) → IfOk (move_op d) IsLeafOp
unfolding move_op
move_read d =
    then IsLeafOp (known (codes "op" ∷ codes "node" ∷ codes "parent" ∷ codes "index" ∷ []) d) _
    (λ _. then IsLeafOp (id_at (get (codes "node") d)) _ (λ node. then IsLeafOp (parent_at (get (codes "parent") d)) _ (λ parent. then IsLeafOp (index_at (get (codes "index") d)) _ (λ index. tt))))

set_read : (v : Version) (d : Data) → IfOk (set_op v d) IsLeafOp
unfolding set_op
set_read v d =
    then IsLeafOp (known (codes "op" ∷ codes "node" ∷ codes "role" ∷ codes "states" ∷ codes "attrs" ∷ codes "rect" ∷ []) d) _
    (λ _. then IsLeafOp (id_at (get (codes "node") d)) _ (λ id. then IsLeafOp (set_in v id d) _ (λ changes. tt)))

pass_read : (d : Data) → IfOk (pass_op d) IsLeafOp
unfolding pass_op
pass_read d = then IsLeafOp (known (codes "op" ∷ []) d) _ (λ _. tt)

op_as_read : (v : Version) (which : FrameOpName) (d : Data) → IfOk (op_as v which d) IsLeafOp
unfolding op_as
op_as_read v (Edit Root) d = root_read v d
op_as_read v (Edit Insert) d = insert_read v d
op_as_read v (Edit Remove) d = then IsLeafOp (node_alone d) _ (λ n. tt)
op_as_read v (Edit Move) d = move_read d
op_as_read v (Edit Set) d = set_read v d
op_as_read v News d = then IsLeafOp (data_op d) _ (λ n. tt)
op_as_read v Touch d = then IsLeafOp (node_alone d) _ (λ n. tt)
op_as_read v TouchBelow d = then IsLeafOp (node_alone d) _ (λ n. tt)
op_as_read v Pass d = pass_read d

pub op_read : (v : Version) (d : Data) → IfOk (op_of v d) IsLeafOp
unfolding op_of
op_read v d =
    then IsLeafOp (tag_of (codes "op") d) _ (λ name. then IsLeafOp (within (dot (codes "op")) (present BadName (frame_op_named name))) _ (λ which. op_as_read v which d))

each_read : (v : Version) (i : ℕ) (items : Items) → IfOk (each (op_of v) i items) HaveLeaves
each_read v i no_items = tt
each_read v i (item d ds) =
    then_with IsLeafOp HaveLeaves (within (place i) (op_of v d)) _ (inside IsLeafOp (place i) (op_of v d) (op_read v d)) (λ op leaf. then_with HaveLeaves HaveLeaves (each (op_of v) (i + 1) ds) _ (each_read v (i + 1) ds) (λ left leaves. (leaf, leaves)))

pub ops_read : (v : Version) (d : Data) → IfOk (list_of (op_of v) d) HaveLeaves
unfolding list_of
ops_read v d = then HaveLeaves (array_of d) _ (λ items. each_read v 0 items)
