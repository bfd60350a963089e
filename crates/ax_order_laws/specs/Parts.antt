-- What a closed hub leaves beside its journals and its history, and what the order that it took needs of it and of a script.
use Rattle.std.specs.Prelude.{ℕ, ◌≡◌, ◌≤◌, ◌==◌, Bool, true, false, List, [], ◌∷◌, ◌++◌, length, map, drop, filter, find, flat_map, slice_get, Option, Some, None}
use Rattle.std.specs.List.{list_any, enumerate_from}
use Rattle.ax_trees.specs.Lists.{NoneTwice}
use Rattle.ax_tree.specs.declared.packet.Packet.{Packet}
use Rattle.ax_tree.specs.declared.packet.JEntry.{JEntry}
use Rattle.ax_tree.specs.declared.packet.JEntry.TheVariants as entries
use Rattle.ax_tree.specs.declared.packet.HEntry.{HEntry}
use Rattle.ax_tree.specs.declared.packet.HEntry.TheVariants as events
use Rattle.ax_tree.specs.Packets.{Fits}
use Rattle.ax_ask.specs.declared.op.FrameOp.{FrameOp}
use Rattle.ax_ask.specs.declared.op.FrameOp.TheVariants as ops
use Rattle.ax_ask.specs.declared.op.BrowserOp.{BrowserOp}
use Rattle.ax_ask.specs.declared.op.BrowserOp.TheVariants as browsers
use Rattle.ax_ask.specs.declared.op.TimedOp.{TimedOp}
use Rattle.ax_ask.specs.declared.query.TimedQuery.{TimedQuery}
use Rattle.ax_rules.specs.Histories.{got}
use Rattle.ax_rules.specs.Laws.{Begins}
use Rattle.ax_run_rules.specs.Scripts.{Script, FrameScript}
use Rattle.ax_run_rules.specs.States.{FrameRun, State, Run}
use Rattle.ax_run_rules.specs.Taken.{ClosedFrame, Closed}

-- ---- what entries hold

-- the operation that an entry of a journal holds, if it holds one
abbrev pub op_in : JEntry → List FrameOp
op_in (entries.Edited e) = ops.Edit e ∷ []
op_in (entries.Marked z) = ops.Touch z ∷ []
op_in (entries.MarkedBelow z) = ops.TouchBelow z ∷ []
op_in entries.Passed = ops.Pass ∷ []
op_in entries.Short = []
op_in (entries.Delivered n) = []

abbrev pub runs_short : JEntry → Bool
runs_short entries.Short = true
runs_short e = false

-- the browser operation that an entry of the history holds, if it holds one
abbrev pub browser_op_in : HEntry → List BrowserOp
browser_op_in (events.Got p) = []
browser_op_in (events.Asked t) = browsers.Ask t ∷ []
browser_op_in (events.Ended t) = browsers.Destroy t ∷ []
browser_op_in (events.Probed t u) = browsers.Probe t u ∷ []

-- the k-th list, from 0, and the empty one past the end
abbrev pub list_or : {A : Type 0} → Option (List A) → List A
list_or None = []
list_or (Some xs) = xs

abbrev pub list_at : {A : Type 0} → List (List A) → ℕ → List A
list_at xss k = list_or (slice_get xss k)

-- ---- frames by their trees

abbrev pub trees_in : Closed → List ℕ
trees_in c = map (λ (f : ClosedFrame). f.tree) c.frames

abbrev pub frame_in : Closed → ℕ → Option ClosedFrame
frame_in c t = find (λ (f : ClosedFrame). f.tree == t) c.frames

abbrev pub journal_or : Option ClosedFrame → List JEntry
journal_or None = []
journal_or (Some f) = f.journal

abbrev pub journal_in : Closed → ℕ → List JEntry
journal_in c t = journal_or (frame_in c t)

abbrev pub ops_or : Option FrameScript → List FrameOp
ops_or None = []
ops_or (Some f) = f.ops

abbrev pub ops_of : Script → ℕ → List FrameOp
ops_of s t = ops_or (find (λ (f : FrameScript). f.tree == t) s.frames)

abbrev pub waiting_of : List Packet → ℕ → List Packet
waiting_of waiting t = filter (λ (p : Packet). p.tree == t) waiting

-- ---- what the parts of a closed hub keep

-- a frame's packets fit its journal, which never ran short; a tree without a frame has no packet
pub record FrameFits (f : ClosedFrame) (packets : List Packet) : Type 0 where
  pub fits : Fits f.tree f.journal packets
  pub whole : list_any runs_short f.journal ≡ false

abbrev pub FramePacketsFit : Option ClosedFrame → List Packet → Type 0
FramePacketsFit None packets = packets ≡ []
FramePacketsFit (Some f) packets = FrameFits f packets

-- the numbers don't fall, and none is below `low` or above `high`
abbrev pub RisesWithin : ℕ → ℕ → List ℕ → Type 0
RisesWithin low high [] = Unit {0}
RisesWithin low high (n ∷ ns) = (low ≤ n) × (n ≤ high) × RisesWithin n high ns

-- the trees differ; the packets received and then those that wait fit the journals; each reader's looks go on, within the history
pub record IsClosedHub (c : Closed) (waiting : List Packet) (looks : List (List ℕ)) : Type 0 where
  pub trees : NoneTwice (trees_in c)
  pub packets : (t : ℕ) → FramePacketsFit (frame_in c t) (got c.history t ++ waiting_of waiting t)
  pub rises : (k : ℕ) → RisesWithin 0 (length c.history) (list_at looks k)

-- the script has these trees, its lists begin with what the journals and the history hold, and each reader has as many queries as looks
pub record IsTakenFrom (s : Script) (c : Closed) (looks : List (List ℕ)) : Type 0 where
  pub trees : map (λ (f : FrameScript). f.tree) s.frames ≡ trees_in c
  pub ops : (t : ℕ) → Begins (ops_of s t) (flat_map op_in (journal_in c t))
  pub browser : Begins (map (λ (o : TimedOp). o.op) s.browser) (flat_map browser_op_in c.history)
  pub queries : (k : ℕ) → length (list_at looks k) ≤ length (list_at s.readers k)

-- the state of a run of the script where all that the journals, the history and the looks hold is done
abbrev pub frame_taken : Closed → List Packet → FrameScript → FrameRun
frame_taken c waiting f = record {
  tree = f.tree;
  left = drop (length (flat_map op_in (journal_in c f.tree))) f.ops;
  journal = journal_in c f.tree;
  waiting = waiting_of waiting f.tree;
}

unfoldable pub state_taken : Script → Closed → List Packet → List (List ℕ) → State
state_taken s c waiting looks = record {
  frames = map (frame_taken c waiting) s.frames;
  browser = drop (length (flat_map browser_op_in c.history)) s.browser;
  readers = map (λ (r : ℕ × List TimedQuery). drop (length (list_at looks r.0)) r.1) (enumerate_from 0 s.readers);
  history = c.history;
}

-- ---- but for the packets' bundles

abbrev pub without_bundle : Packet → Packet
without_bundle p = record p { bundle = [] }

abbrev pub entry_without : HEntry → HEntry
entry_without (events.Got p) = events.Got (without_bundle p)
entry_without (events.Asked t) = events.Asked t
entry_without (events.Ended t) = events.Ended t
entry_without (events.Probed t u) = events.Probed t u

unfoldable pub without_bundles : State → State
without_bundles s = record s {
  frames = map (λ (f : FrameRun). record f { waiting = map without_bundle f.waiting }) s.frames;
  history = map entry_without s.history;
}

abbrev pub run_without : Run → Run
run_without r = record { state = without_bundles r.state; lines = r.lines }
