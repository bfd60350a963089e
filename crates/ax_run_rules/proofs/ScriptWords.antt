-- Short words for the parts of scripts in worked examples.
use Rattle.std.specs.Prelude.{ℕ, ℤ, pos, List, [], Option, None}
use Rattle.ax_base.specs.Area.{Area}
use Rattle.ax_base.specs.declared.position.Place.{Place}
use Rattle.ax_base.specs.declared.position.Affinity.{Affinity}
use Rattle.ax_base.specs.declared.position.Pos as position
use Rattle.ax_base.specs.declared.position.Pos.TheVariants as positions
use Rattle.ax_base.specs.declared.rect.Point.{Point}
use Rattle.ax_node.specs.declared.value.Value.{Value}
use Rattle.ax_node.specs.declared.node.NodeData.{NodeData}
use Rattle.ax_tree.specs.declared.edit.Edit.TheVariants as edits
use Rattle.ax_tree.specs.declared.edit.AttrChange.{AttrChange}
use Rattle.ax_tree.specs.declared.edit.SetTree.{SetTree}
use Rattle.ax_tree.specs.declared.update.TreeUpdate.{TreeUpdate}
use Rattle.ax_ask.specs.declared.action.Action.{Action}
use Rattle.ax_ask.specs.declared.action.What.{What}
use Rattle.ax_ask.specs.declared.op.FrameOp.{FrameOp}
use Rattle.ax_ask.specs.declared.op.FrameOp.TheVariants as ops
use Rattle.ax_ask.specs.declared.op.BrowserOp.{BrowserOp}
use Rattle.ax_ask.specs.declared.op.TimedOp.{TimedOp}
use Rattle.ax_ask.specs.declared.op.Item.{Item}
use Rattle.ax_ask.specs.declared.op.Item.TheVariants as items
use Rattle.ax_ask.specs.declared.query.Query.{Query}
use Rattle.ax_ask.specs.declared.query.TimedQuery.{TimedQuery}
use Rattle.ax_run_rules.specs.Scripts.{Script, FrameScript}

abbrev pub area : ℤ → ℤ → ℤ → ℤ → Area
area x y w h = record { x = x; y = y; w = w; h = h }

abbrev pub no_area : Area
no_area = area (pos 0) (pos 0) (pos 0) (pos 0)

-- a node's id, role, states, attributes, rectangle and children
abbrev pub node : ℕ → ℕ → List ℕ → List (ℕ × Value) → Area → List ℕ → NodeData
node i role states attrs rect children = record { id = i; role = role; states = states; attrs = attrs; rect = rect; children = children }

-- a generic node with nothing, and one with attributes
abbrev pub blank : ℕ → NodeData
blank i = node i 1 [] [] no_area []

abbrev pub having : ℕ → List (ℕ × Value) → NodeData
having i attrs = node i 1 [] attrs no_area []

-- ---- operations of frames

abbrev pub root : NodeData → FrameOp
root n = ops.Edit (edits.Root n)

abbrev pub insert : ℕ → ℕ → NodeData → FrameOp
insert parent index n = ops.Edit (edits.Insert parent index n)

abbrev pub remove : ℕ → FrameOp
remove z = ops.Edit (edits.Remove z)

abbrev pub move : ℕ → ℕ → ℕ → FrameOp
move z parent index = ops.Edit (edits.Move z parent index)

abbrev pub set : ℕ → Option ℕ → Option (List ℕ) → List AttrChange → Option Area → FrameOp
set z role states attrs rect = ops.Edit (edits.Set (record { node = z; role = role; states = states; attrs = attrs; rect = rect }))

abbrev pub set_attrs : ℕ → List AttrChange → FrameOp
set_attrs z attrs = set z None None attrs None

abbrev pub change : ℕ → Option Value → AttrChange
change k v = record { key = k; value = v }

abbrev pub no_data : SetTree
no_data = record { parent = None; focused = None; loaded = None; focus = None; anchor = None; end = None; title = None; url = None }

abbrev pub about : SetTree → FrameOp
about d = ops.Edit (edits.Tree d)

-- ---- operations of the browser, queries, actions

abbrev pub after : ℕ → BrowserOp → TimedOp
after n o = record { after = n; op = o }

abbrev pub update : Option ℕ → Option ℕ → List NodeData → TreeUpdate
update clear root nodes = record { clear = clear; root = root; nodes = nodes; tree_data = None }

abbrev pub asked : ℕ → Query → TimedQuery
asked n q = record { after = n; query = q }

abbrev pub place : ℕ → ℕ → Place
place t z = record { tree = t; node = z }

abbrev pub point : ℤ → ℤ → Point
point x y = record { x = x; y = y }

abbrev pub child_at : ℕ → ℕ → ℕ → position.Pos
child_at t z c = positions.Tree t z c

abbrev pub text_at : ℕ → ℕ → ℕ → Affinity → position.Pos
text_at t z o a = positions.Text t z o a

abbrev pub action : ℕ → ℕ → What → Action
action t z w = record { tree = t; node = z; what = w }

-- ---- orders and scripts

abbrev pub f : ℕ → Item
f t = items.Frame t

abbrev pub a : ℕ → Item
a t = items.Receive t

abbrev pub b : Item
b = items.Browser

abbrev pub d : ℕ → ℕ → Item
d t n = items.Deliver t (record { 0 = n })

abbrev pub r : ℕ → Item
r k = items.Reader k

abbrev pub frame : ℕ → List FrameOp → FrameScript
frame t os = record { tree = t; ops = os }

-- a script of frames alone
abbrev pub frames : List FrameScript → Script
frames fs = record { frames = fs; browser = []; readers = []; order = []; actions = [] }
