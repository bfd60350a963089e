-- What an operation of a frame adds to its journal, the packet that it sends, and its line.
use Rattle.std.specs.Prelude.{ℕ, true, false, if◌then◌else◌, List, [], ◌∷◌, ◌++◌, map, Option, Some, None, is_some, option_to_list}
use Rattle.ax_node.specs.declared.node.NodeData.{NodeData}
use Rattle.ax_trees.specs.Trees.{has}
use Rattle.ax_tree.specs.declared.edit.Edit.{Edit}
use Rattle.ax_tree.specs.declared.edit.Edit.TheVariants as edits
use Rattle.ax_tree.specs.declared.edit.MarkErr.{MarkErr}
use Rattle.ax_tree.specs.declared.edit.MarkErr.TheVariants as marks
use Rattle.ax_tree.specs.declared.packet.Packet.{Packet}
use Rattle.ax_tree.specs.declared.packet.JEntry.{JEntry}
use Rattle.ax_tree.specs.declared.packet.JEntry.TheVariants as entries
use Rattle.ax_tree.specs.declared.update.TreeUpdate.{TreeUpdate}
use Rattle.ax_tree.specs.Tree.{Tree}
use Rattle.ax_tree.specs.Edits.{refusal}
use Rattle.ax_tree.specs.Journals.{Frame, pending, packet_at}
use Rattle.ax_ask.specs.declared.op.FrameOp.{FrameOp}
use Rattle.ax_ask.specs.declared.op.FrameOp.TheVariants as ops
use Rattle.ax_ask.specs.declared.line.Line.{Line}
use Rattle.ax_ask.specs.declared.line.Line.TheVariants as lines
use Rattle.ax_ask.specs.declared.line.OpName.TheVariants as names
use Rattle.ax_ask.specs.declared.line.UpdateNote.{UpdateNote}
use Rattle.ax_ask.specs.declared.line.MadeNote.{MadeNote}
use Rattle.ax_ask.specs.declared.line.PassNote.{PassNote}
use Rattle.ax_ask.specs.declared.line.PassNote.TheVariants as passes
use Rattle.ax_run_rules.specs.States.{FrameRun, Run, frame_now, with_frame, with_line}

abbrev pub entry_of : FrameOp → JEntry
entry_of (ops.Edit e) = entries.Edited e
entry_of (ops.Touch z) = entries.Marked z
entry_of (ops.TouchBelow z) = entries.MarkedBelow z
entry_of ops.Pass = entries.Passed

-- the line of an edit, with the first refusal that stands
unfoldable pub edit_line : ℕ → Tree → Edit → Line
edit_line t s (edits.Root n) = lines.Edited t names.Root n.id (refusal (edits.Root n) s)
edit_line t s (edits.Insert p i n) = lines.Edited t names.Insert n.id (refusal (edits.Insert p i n) s)
edit_line t s (edits.Remove z) = lines.Edited t names.Remove z (refusal (edits.Remove z) s)
edit_line t s (edits.Move z p i) = lines.Edited t names.Move z (refusal (edits.Move z p i) s)
edit_line t s (edits.Set e) = lines.Edited t names.Set e.node (refusal (edits.Set e) s)
edit_line t s (edits.Tree e) = lines.DataSet t

abbrev pub mark_refusal : Tree → ℕ → Option MarkErr
mark_refusal s z = if has s.trees z then None else Some (marks.UnknownNode z)

-- what is told of an update and of a packet
unfoldable pub update_note : TreeUpdate → UpdateNote
update_note u = record {
  clear = u.clear;
  root = u.root;
  nodes = map (λ (n : NodeData). n.id) u.nodes;
  with_data = is_some u.tree_data;
}

unfoldable pub made_note : Packet → MadeNote
made_note p = record { pass = p.pass; base = p.base; token = p.token; resumed = false; updates = map update_note p.bundle }

-- the packet that a pass makes, if it makes one
unfoldable pub packet_now : ℕ → Frame → Option Packet
packet_now t f = if pending f then Some (packet_at t f) else None

abbrev pub pass_note : Option Packet → PassNote
pass_note None = passes.Nothing
pass_note (Some p) = passes.Made (made_note p)

unfoldable pub op_line : ℕ → Frame → FrameOp → Line
op_line t f (ops.Edit e) = edit_line t f.source e
op_line t f (ops.Touch z) = lines.Touched t false z (mark_refusal f.source z)
op_line t f (ops.TouchBelow z) = lines.Touched t true z (mark_refusal f.source z)
op_line t f ops.Pass = lines.Passed t (pass_note (packet_now t f))

abbrev pub sent_by : ℕ → Frame → FrameOp → List Packet
sent_by t f (ops.Edit e) = []
sent_by t f (ops.Touch z) = []
sent_by t f (ops.TouchBelow z) = []
sent_by t f ops.Pass = option_to_list (packet_now t f)

-- the frame does the operation, and these are left
unfoldable pub do_op : Run → FrameRun → FrameOp → List FrameOp → Run
do_op r f op left =
    with_line r
    (with_frame r.state (record {
      tree = f.tree;
      left = left;
      journal = f.journal ++ entry_of op ∷ [];
      waiting = f.waiting ++ sent_by f.tree (frame_now f) op;
    }))
    (op_line f.tree (frame_now f) op)
