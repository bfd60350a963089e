-- What holds of each state of a run.
use Rattle.std.specs.Prelude.{ℕ, ◌≡◌, ◌≤◌, false, List, [], length, All}
use Rattle.ax_trees.specs.Lists.{NoneTwice}
use Rattle.ax_tree.specs.Journals.{is_short}
use Rattle.ax_ask.specs.Calls.{HaveLeaves, AllNamed}
use Rattle.ax_tree.specs.declared.packet.HEntry.{HEntry}
use Rattle.ax_ask.specs.declared.op.TimedOp.{TimedOp}
use Rattle.ax_ask.specs.declared.query.TimedQuery.{TimedQuery}
use Rattle.ax_run_rules.specs.States.{FrameRun, State, Run, trees_of}
use Rattle.ax_core.specs.FrameRuns.{IsFitting}

-- There is a frame, and no two have one tree. The browser's operations are at the frames' trees, edits put nodes without children, and each tree's packets fit its frame's journal.
pub record Stands (s : State) : Type 0 where
  pub some : 1 ≤ length s.frames
  pub apart : NoneTwice (trees_of s)
  pub named : AllNamed (trees_of s) s.browser
  pub leaves : All (λ (f : FrameRun). HaveLeaves f.left) s.frames
  pub fitting : All (IsFitting s.history) s.frames

abbrev pub state_of : List FrameRun → List TimedOp → List (List TimedQuery) → List HEntry → State
state_of frames browser readers history = record { frames = frames; browser = browser; readers = readers; history = history }

-- what is kept beside a state: where its trees stand, and the forest's trees
pub record IsKept (s : State) (ps ts : List ℕ) : Type 0 where
  pub places : ps ≡ trees_of s
  pub trees : ts ≡ trees_of s
  pub stands : Stands s

-- no frame is short
abbrev pub IsWhole : State → Type 0
IsWhole s = All (λ (f : FrameRun). is_short f.tree f.journal ≡ false) s.frames

-- a state of which no line is told yet
abbrev pub at : State → Run
at s = record { state = s; lines = [] }
