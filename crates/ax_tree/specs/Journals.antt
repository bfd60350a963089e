-- What the journal of a frame stands for: its source, its marks, and the packets of its passes.
use Rattle.std.specs.Prelude.{ℕ, suc, Bool, true, false, not, ◌&&◌, ◌||◌, is_none, if◌then◌else◌, List, [], ◌∷◌, ◌++◌, Option, Some, None}
use Rattle.ax_trees.specs.Trees.{is_bare, has}
use Rattle.ax_trees.specs.Nodes.{pre}
use Rattle.ax_trees.specs.Lists.{is_nil}
use Rattle.ax_trees.specs.Shape.{shape}
use Rattle.ax_tree.specs.declared.edit.Edit.{Edit}
use Rattle.ax_tree.specs.declared.packet.Packet.{Packet}
use Rattle.ax_tree.specs.declared.packet.JEntry.{JEntry}
use Rattle.ax_tree.specs.declared.packet.JEntry.TheVariants.{Edited, Marked, MarkedBelow, Passed, Short, Delivered}
use Rattle.ax_tree.specs.MarkRule.{add_mark, add_marks}
use Rattle.ax_tree.specs.Tree.{Tree, empty}
use Rattle.ax_tree.specs.Edits.{edited, refusal, marks_after, flag_after}
use Rattle.ax_tree.specs.Serialised.{bundle_of}

-- The source: the edits one after the other upon the empty tree; refused ones change nothing. Marks, clients and updates have no part in it.
abbrev pub edit_taken : Edit → Tree → Tree
edit_taken e s = if is_none (refusal e s) then edited e s else s

abbrev pub source_after : JEntry → Tree → Tree
source_after (Edited e) s = edit_taken e s
source_after (Marked z) s = s
source_after (MarkedBelow z) s = s
source_after Passed s = s
source_after Short s = s
source_after (Delivered n) s = s

abbrev pub source_from : List JEntry → Tree → Tree
source_from [] s = s
source_from (e ∷ es) s = source_from es (source_after e s)

abbrev pub source_of : ℕ → List JEntry → Tree
source_of t journal = source_from journal (empty t)

-- what a journal leaves
pub record Frame : Type 0 where
  pub source : Tree
  -- the marks, and whether tree data were changed, since the last pass that made a packet
  pub marks : List ℕ
  pub flag : Bool
  -- the source at that pass; empty before it and after a delivery
  pub sent : Tree
  -- how many passes made a packet
  pub passes : ℕ
  -- the last delivered token
  pub token : ℕ
  -- the accepted edits since that pass
  pub slip : List Edit
  -- a pass has run out of memory since that pass and the last delivery
  pub short : Bool

abbrev pub new_frame : ℕ → Frame
new_frame t = record {
  source = empty t;
  marks = [];
  flag = false;
  sent = empty t;
  passes = 0;
  token = 0;
  slip = [];
  short = false;
}

-- A pass makes a packet where the source has a root, and the receiver has nothing or there is something to send.
abbrev pub pending : Frame → Bool
pending f = not (is_bare f.source.trees) && (is_bare f.sent.trees || (not (is_nil f.marks) || f.flag))

abbrev pub after_edit : Edit → Frame → Frame
after_edit e f =
    if is_none (refusal e f.source) then
    record f {
      source = edited e f.source;
      marks = marks_after e f.source f.marks;
      flag = flag_after e f.flag;
      slip = f.slip ++ (e ∷ []);
    }
    else f

abbrev pub after_packet : Frame → Frame
after_packet f = record {
  source = f.source;
  marks = [];
  flag = false;
  sent = f.source;
  passes = suc f.passes;
  token = f.token;
  slip = [];
  short = false;
}

abbrev pub after_entry : ℕ → JEntry → Frame → Frame
after_entry t (Edited e) f = after_edit e f
after_entry t (Marked z) f = if has f.source.trees z then record f { marks = add_mark f.marks z } else f
after_entry t (MarkedBelow z) f = record f { marks = add_marks f.marks (pre f.source.trees z) }
after_entry t Passed f = if pending f then after_packet f else f
after_entry t Short f = record f { short = true }
after_entry t (Delivered n) f = record f { sent = empty t; token = n.0; short = false }

abbrev pub frame_from : ℕ → List JEntry → Frame → Frame
frame_from t [] f = f
frame_from t (e ∷ es) f = frame_from t es (after_entry t e f)

abbrev pub frame_of : ℕ → List JEntry → Frame
frame_of t journal = frame_from t journal (new_frame t)

-- a pass has run out of memory since the last one that made a packet and the last delivery
abbrev pub is_short : ℕ → List JEntry → Bool
is_short t journal = (frame_of t journal).short

-- the packet that a pass makes there, where nothing was kept
abbrev pub packet_at : ℕ → Frame → Packet
packet_at t f = record {
  tree = t;
  pass = record { 0 = suc f.passes };
  base = record { 0 = if is_bare f.sent.trees then 0 else f.passes };
  token = record { 0 = f.token };
  slip = f.slip;
  bundle = bundle_of (shape f.sent.trees) f.source f.marks f.flag;
}

-- and none where there is nothing to send
abbrev pub packet_of : ℕ → List JEntry → Option Packet
packet_of t journal = if pending (frame_of t journal) then Some (packet_at t (frame_of t journal)) else None

-- the packets of all passes of a journal
abbrev pub made_at : ℕ → JEntry → Frame → List Packet
made_at t Passed f = if pending f then packet_at t f ∷ [] else []
made_at t (Edited e) f = []
made_at t (Marked z) f = []
made_at t (MarkedBelow z) f = []
made_at t Short f = []
made_at t (Delivered n) f = []

abbrev pub made_from : ℕ → List JEntry → Frame → List Packet
made_from t [] f = []
made_from t (e ∷ es) f = made_at t e f ++ made_from t es (after_entry t e f)

abbrev pub packets_of : ℕ → List JEntry → List Packet
packets_of t journal = made_from t journal (new_frame t)
