-- What an operation, a delivery and a receipt make of a frame in a run.
use Rattle.std.specs.Prelude.{ℕ, ◌≡◌, ◌⊎◌, true, false, List, [], ◌∷◌, ◌++◌, Option, Some, None}
use Rattle.ax_tree.specs.declared.edit.Edit.{Edit}
use Rattle.ax_tree.specs.declared.edit.Edit.TheVariants as edits
use Rattle.ax_tree.specs.declared.edit.EditErr.{EditErr}
use Rattle.ax_tree.specs.declared.packet.Packet.{Packet}
use Rattle.ax_tree.specs.declared.packet.JEntry.TheVariants as entries
use Rattle.ax_tree.specs.declared.packet.HEntry.{HEntry}
use Rattle.ax_tree.specs.Journals.{pending, is_short}
use Rattle.ax_tree.specs.Packets.{Fits}
use Rattle.ax_ask.specs.declared.op.FrameOp.{FrameOp}
use Rattle.ax_ask.specs.declared.op.FrameOp.TheVariants as ops
use Rattle.ax_ask.specs.declared.line.Line.{Line}
use Rattle.ax_ask.specs.declared.line.Line.TheVariants as lines
use Rattle.ax_ask.specs.declared.line.OpName.TheVariants as names
use Rattle.ax_ask.specs.declared.line.PassNote.TheVariants as passes
use Rattle.ax_rules.specs.Histories.{got}
use Rattle.ax_run_rules.specs.States.{FrameRun, frame_now}
use Rattle.ax_run_rules.specs.FrameSteps.{entry_of, sent_by, op_line, made_note}
use Rattle.ax_frame.specs.Frames.{Journaled}
use Rattle.ax_frame.specs.Passes.{IsPass}

abbrev pub journaled : FrameRun → Journaled
journaled f = record { tree = f.tree; journal = f.journal }

abbrev pub in_run : Journaled → List FrameOp → List Packet → FrameRun
in_run j left waiting = record { tree = j.tree; left = left; journal = j.journal; waiting = waiting }

-- the line of an edit whose refusal is known
abbrev pub told_edit : ℕ → Edit → Option EditErr → Line
told_edit t (edits.Root n) refused = lines.Edited t names.Root n.id refused
told_edit t (edits.Insert p i n) refused = lines.Edited t names.Insert n.id refused
told_edit t (edits.Remove z) refused = lines.Edited t names.Remove z refused
told_edit t (edits.Move z p i) refused = lines.Edited t names.Move z refused
told_edit t (edits.Set e) refused = lines.Edited t names.Set e.node refused
told_edit t (edits.Tree e) refused = lines.DataSet t

-- the frame after the operation, by the rule
abbrev pub after_op : FrameRun → FrameOp → List FrameOp → FrameRun
after_op f op left = record {
  tree = f.tree;
  left = left;
  journal = f.journal ++ entry_of op ∷ [];
  waiting = f.waiting ++ sent_by f.tree (frame_now f) op;
}

-- the frame after a pass that sent the packet
abbrev pub after_sent : FrameRun → List FrameOp → Packet → FrameRun
after_sent f left p = record {
  tree = f.tree;
  left = left;
  journal = f.journal ++ entries.Passed ∷ [];
  waiting = f.waiting ++ p ∷ [];
}

-- A pass that completes a bundle for which an earlier one had no memory. It is as the rule's but for the bundle, and its line tells of it.
pub record Resumes (f : FrameRun) (left : List FrameOp) (g : FrameRun) (l : Line) : Type 0 where
  pub short : is_short f.tree f.journal ≡ true
  pub packet : Packet
  pub made : IsPass f.tree (frame_now f) packet
  pub after : g ≡ after_sent f left packet
  pub told : l ≡ lines.Passed f.tree (passes.Made (record (made_note packet) { resumed = true }))

abbrev pub MayResume : FrameRun → FrameOp → List FrameOp → FrameRun → Line → Type 0
MayResume f (ops.Edit e) left g l = ⊥
MayResume f (ops.Touch z) left g l = ⊥
MayResume f (ops.TouchBelow z) left g l = ⊥
MayResume f ops.Pass left g l = Resumes f left g l

-- the frame f does the operation by the rule, which gives the frame g and the line
pub record IsRuled (f : FrameRun) (op : FrameOp) (left : List FrameOp) (g : FrameRun) (l : Line) : Type 0 where
  pub after : g ≡ after_op f op left
  pub told : l ≡ op_line f.tree (frame_now f) op

-- The operation is done, and these are left. Where the frame isn't short it is done by the rule.
pub record IsDone (f : FrameRun) (op : FrameOp) (left : List FrameOp) (g : FrameRun) (l : Line) : Type 0 where
  pub is : IsRuled f op left g l ⊎ MayResume f op left g l
  pub whole : is_short f.tree f.journal ≡ false → IsRuled f op left g l

-- an operation for which there was no memory: nothing has changed, or a pass was broken off
abbrev pub with_short : FrameRun → FrameRun
with_short f = record f { journal = f.journal ++ entries.Short ∷ [] }

abbrev pub IsBroken : FrameRun → FrameOp → FrameRun → Type 0
IsBroken f op g = (g ≡ f) ⊎ ((op ≡ ops.Pass) × ((pending (frame_now f) ≡ true) × (g ≡ with_short f)))

abbrev pub delivered : FrameRun → ℕ → FrameRun
delivered f n = record f { journal = f.journal ++ entries.Delivered (record { 0 = n }) ∷ [] }

-- the next operation of a frame, or its next packet, is done, or none is there
abbrev pub NextDone : FrameRun → List FrameOp → FrameRun → Option Line → Type 0
NextDone f [] g o = (o ≡ None) × (g ≡ f)
NextDone f (op ∷ left) g None = ⊥
NextDone f (op ∷ left) g (Some l) = IsDone f op left g l

abbrev pub NextBroken : FrameRun → List FrameOp → FrameRun → Type 0
NextBroken f [] g = g ≡ f
NextBroken f (op ∷ left) g = IsBroken f op g

-- the packets received of its tree, with those that wait, fit its journal
abbrev pub IsFitting : List HEntry → FrameRun → Type 0
IsFitting h f = Fits f.tree f.journal (got h f.tree ++ f.waiting)

-- so they do after each call that the history has no part in
abbrev pub KeepsFitting : FrameRun → FrameRun → Type 0
KeepsFitting f g = (h : List HEntry) → IsFitting h f → IsFitting h g
