-- Updates.
use Rattle.std.specs.Prelude.{ℕ, List, [], ◌∷◌, codes, Option, None, unwrap_or, Result, Ok}
use Rattle.serde_json.specs.Data.{Data}
use Rattle.serde_json.specs.Find.{get}
use Rattle.ax_attrs.specs.declared.table.Version.{Version}
use Rattle.ax_node.specs.declared.node.NodeData.{NodeData}
use Rattle.ax_tree.specs.declared.update.TreeUpdate.{TreeUpdate}
use Rattle.ax_json.specs.Refused.{Refusal, ◌>>=◌}
use Rattle.ax_json.specs.Walk.{node_id, node_or_none, list_of, known, required, optional}
use Rattle.ax_forms.specs.Looks.{node_from}
use Rattle.ax_forms.specs.TreeNews.{update_data}

unfoldable pub with_children : NodeData → List ℕ → NodeData
with_children node children = record node { children = children }

-- the members of a node, by the values at their names
unfoldable pub update_node_from : Version → Option Data → Option Data → Option Data → Option Data → Option Data → Option Data → Result NodeData Refusal
update_node_from version node_at role_at states_at attrs_at rect_at children_at = do
  id ← required node_id (codes "node") node_at
  node ← node_from version id role_at states_at attrs_at rect_at
  children ← optional (list_of node_id) (codes "children") children_at
  Ok (with_children node (unwrap_or children []))

unfoldable pub update_node : Version → Data → Result NodeData Refusal
update_node version d = do
  _ ← known (codes "node" ∷ codes "role" ∷ codes "states" ∷ codes "attrs" ∷ codes "rect" ∷ codes "children" ∷ []) d
  update_node_from version (get (codes "node") d) (get (codes "role") d) (get (codes "states") d) (get (codes "attrs") d) (get (codes "rect") d) (get (codes "children") d)

-- an update of this tree
unfoldable pub update_of : Version → ℕ → Data → Result TreeUpdate Refusal
update_of version tree d = do
  _ ← known (codes "clear" ∷ codes "root" ∷ codes "nodes" ∷ codes "data" ∷ []) d
  clear ← optional node_or_none (codes "clear") (get (codes "clear") d)
  root ← optional node_or_none (codes "root") (get (codes "root") d)
  nodes ← required (list_of (update_node version)) (codes "nodes") (get (codes "nodes") d)
  news ← optional (update_data tree) (codes "data") (get (codes "data") d)
  Ok (record { clear = unwrap_or clear None; root = unwrap_or root None; nodes = nodes; tree_data = news })
