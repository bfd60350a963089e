-- The state of a run: what is left of each list, each frame's journal and waiting packets, and the history.
use Rattle.std.specs.Prelude.{ℕ, ◌==◌, if◌then◌else◌, List, [], ◌∷◌, ◌++◌, find, map, Option}
use Rattle.ax_tree.specs.declared.packet.Packet.{Packet}
use Rattle.ax_tree.specs.declared.packet.JEntry.{JEntry}
use Rattle.ax_tree.specs.declared.packet.HEntry.{HEntry}
use Rattle.ax_tree.specs.Forest.{Forest}
use Rattle.ax_tree.specs.Journals.{Frame, frame_of}
use Rattle.ax_ask.specs.declared.op.FrameOp.{FrameOp}
use Rattle.ax_ask.specs.declared.op.TimedOp.{TimedOp}
use Rattle.ax_ask.specs.declared.query.TimedQuery.{TimedQuery}
use Rattle.ax_ask.specs.declared.line.Line.{Line}
use Rattle.ax_rules.specs.Mirrors.{forest_of}
use Rattle.ax_run_rules.specs.Scripts.{Script, FrameScript}

-- a frame in a run; the packets that were made and not received wait in order
pub record FrameRun : Type 0 where
  pub tree : ℕ
  pub left : List FrameOp
  pub journal : List JEntry
  pub waiting : List Packet

pub record State : Type 0 where
  pub frames : List FrameRun
  pub browser : List TimedOp
  pub readers : List (List TimedQuery)
  pub history : List HEntry

-- a state, and the lines so far
pub record Run : Type 0 where
  pub state : State
  pub lines : List Line

unfoldable pub start : Script → State
start s = record {
  frames = map (λ (f : FrameScript). record { tree = f.tree; left = f.ops; journal = []; waiting = [] }) s.frames;
  browser = s.browser;
  readers = s.readers;
  history = [];
}

unfoldable pub begin : Script → Run
begin s = record { state = start s; lines = [] }

unfoldable pub frame_now : FrameRun → Frame
frame_now f = frame_of f.tree f.journal

abbrev pub trees_of : State → List ℕ
trees_of s = map (λ (f : FrameRun). f.tree) s.frames

unfoldable pub forest_now : State → Forest
forest_now s = forest_of (trees_of s) s.history

unfoldable pub find_frame : State → ℕ → Option FrameRun
find_frame s t = find (λ (f : FrameRun). f.tree == t) s.frames

-- with this frame in the place of that of its tree
unfoldable pub with_frame : State → FrameRun → State
with_frame s f = record s { frames = map (λ (g : FrameRun). if g.tree == f.tree then f else g) s.frames }

abbrev pub with_entry : State → HEntry → State
with_entry s e = record s { history = s.history ++ e ∷ [] }

abbrev pub with_line : Run → State → Line → Run
with_line r s l = record { state = s; lines = r.lines ++ l ∷ [] }

abbrev pub without_lines : Run → Run
without_lines r = record { state = r.state; lines = [] }
