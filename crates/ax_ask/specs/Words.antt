-- The words of operations, queries, actions and affinities. Each stands here once: a script is read by them, and lines are
-- printed with them. What a word names is the first whose name it is.
use Rattle.std.specs.Prelude.{ℕ, List, [], ◌∷◌, ◌++◌, codes, Option, find, bytes_eq}
use Rattle.ax_attrs.specs.declared.table.Version.{Version}
use Rattle.ax_attrs.specs.declared.table.Version.TheVariants.{One, Two}
use Rattle.ax_base.specs.declared.position.Affinity.{Affinity}
use Rattle.ax_base.specs.declared.position.Affinity.TheVariants as toward
use Rattle.ax_ask.specs.declared.line.OpName.{OpName}
use Rattle.ax_ask.specs.declared.line.OpName.TheVariants as edits
use Rattle.ax_ask.specs.declared.op.FrameOpName.{FrameOpName}
use Rattle.ax_ask.specs.declared.op.FrameOpName.TheVariants as ops
use Rattle.ax_ask.specs.declared.op.BrowserOpName.{BrowserOpName}
use Rattle.ax_ask.specs.declared.op.BrowserOpName.TheVariants as browsers
use Rattle.ax_ask.specs.declared.query.QueryName.{QueryName}
use Rattle.ax_ask.specs.declared.query.QueryName.TheVariants as queries
use Rattle.ax_ask.specs.declared.action.DoName.{DoName}
use Rattle.ax_ask.specs.declared.action.DoName.TheVariants as does

-- ---- operations of a frame

abbrev pub op_name : OpName → List ℕ
op_name edits.Root = codes "root"
op_name edits.Insert = codes "insert"
op_name edits.Remove = codes "remove"
op_name edits.Move = codes "move"
op_name edits.Set = codes "set"

abbrev pub frame_op_name : FrameOpName → List ℕ
frame_op_name (ops.Edit e) = op_name e
frame_op_name ops.Data = codes "data"
frame_op_name ops.Touch = codes "touch"
frame_op_name ops.TouchBelow = codes "touch_below"
frame_op_name ops.Pass = codes "pass"

abbrev pub frame_ops : List FrameOpName
frame_ops =
    ops.Edit edits.Root ∷ ops.Edit edits.Insert ∷ ops.Edit edits.Remove ∷ ops.Edit edits.Move ∷ ops.Edit edits.Set ∷ ops.Data ∷ ops.Touch ∷ ops.TouchBelow ∷ ops.Pass ∷ []

unfoldable pub frame_op_named : List ℕ → Option FrameOpName
frame_op_named word = find (λ (op : FrameOpName). bytes_eq (frame_op_name op) word) frame_ops

-- ---- operations of the browser

abbrev pub browser_op_name : BrowserOpName → List ℕ
browser_op_name browsers.Ask = codes "ask"
browser_op_name browsers.Destroy = codes "destroy"
browser_op_name browsers.Probe = codes "probe"

abbrev pub browser_ops : List BrowserOpName
browser_ops = browsers.Ask ∷ browsers.Destroy ∷ browsers.Probe ∷ []

unfoldable pub browser_op_named : List ℕ → Option BrowserOpName
browser_op_named word = find (λ (op : BrowserOpName). bytes_eq (browser_op_name op) word) browser_ops

-- ---- queries

abbrev pub query_name : QueryName → List ℕ
query_name queries.Node = codes "node"
query_name queries.Parent = codes "parent"
query_name queries.Children = codes "children"
query_name queries.Next = codes "next"
query_name queries.Prev = codes "prev"
query_name queries.Bounds = codes "bounds"
query_name queries.UParent = codes "u_parent"
query_name queries.UChildren = codes "u_children"
query_name queries.UNext = codes "u_next"
query_name queries.UPrev = codes "u_prev"
query_name queries.UText = codes "u_text"
query_name queries.Hit = codes "hit"
query_name queries.Focus = codes "focus"
query_name queries.Offset = codes "offset"
query_name queries.Leaf = codes "leaf"
query_name queries.Up = codes "up"
query_name queries.Compare = codes "compare"
query_name queries.Text = codes "text"
query_name queries.Move = codes "move"

-- those of version 1, and those that version 2 added
abbrev pub old_queries : List QueryName
old_queries =
    queries.Node ∷ queries.Parent ∷ queries.Children ∷ queries.Next ∷ queries.Prev ∷ queries.Hit ∷ queries.Focus ∷ queries.Offset ∷ queries.Leaf ∷ queries.Up ∷ queries.Compare ∷ queries.Text ∷ queries.Move ∷ []

abbrev pub new_queries : List QueryName
new_queries = queries.Bounds ∷ queries.UParent ∷ queries.UChildren ∷ queries.UNext ∷ queries.UPrev ∷ queries.UText ∷ []

abbrev pub queries_of : Version → List QueryName
queries_of One = old_queries
queries_of Two = old_queries ++ new_queries

unfoldable pub query_named : Version → List ℕ → Option QueryName
query_named version word = find (λ (q : QueryName). bytes_eq (query_name q) word) (queries_of version)

-- ---- actions

abbrev pub do_name : DoName → List ℕ
do_name does.Focus = codes "focus"
do_name does.SetValue = codes "set_value"
do_name does.Scroll = codes "scroll"

abbrev pub actions : List DoName
actions = does.Focus ∷ does.SetValue ∷ does.Scroll ∷ []

unfoldable pub do_named : List ℕ → Option DoName
do_named word = find (λ (act : DoName). bytes_eq (do_name act) word) actions

-- ---- affinities

abbrev pub affinity_name : Affinity → List ℕ
affinity_name toward.Up = codes "up"
affinity_name toward.Down = codes "down"

abbrev pub affinities : List Affinity
affinities = toward.Up ∷ toward.Down ∷ []

unfoldable pub affinity_named : List ℕ → Option Affinity
affinity_named word = find (λ (a : Affinity). bytes_eq (affinity_name a) word) affinities
