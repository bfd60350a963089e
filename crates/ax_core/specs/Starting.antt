-- The states that scripts begin with, and those that closed parts leave to be done.
use Rattle.std.specs.Prelude.{ℕ, ◌≡◌, ◌≤◌, ◌==◌, true, false, if◌then◌else◌, List, [], ◌∷◌, ◌++◌, length, map, drop, filter, All}
use Rattle.std.specs.List.{zip}
use Rattle.ax_trees.specs.Lists.{NoneTwice, contains}
use Rattle.ax_tree.specs.declared.packet.Packet.{Packet}
use Rattle.ax_tree.specs.Journals.{is_short}
use Rattle.ax_ask.specs.declared.query.TimedQuery.{TimedQuery}
use Rattle.ax_ask.specs.Calls.{AllNamed}
use Rattle.ax_script.specs.declared.script.FrameScript.{FrameScript as ReadFrame}
use Rattle.ax_script.specs.declared.script.Script.{Script as Read}
use Rattle.ax_script.specs.Sound.{HasLeaves, trees_in}
use Rattle.ax_frame.specs.Frames.{Journaled}
use Rattle.ax_frame.specs.declared.counts.Counts.{Counts}
use Rattle.ax_forest.specs.declared.parts.ForestParts.{ForestParts}
use Rattle.ax_run_rules.specs.Scripts.{Script, FrameScript}
use Rattle.ax_run_rules.specs.States.{FrameRun, State}
use Rattle.ax_core.specs.Standing.{Stands}

-- a script as the rules of runs have it
abbrev pub frame_in : ReadFrame → FrameScript
frame_in f = record { tree = f.tree; ops = f.ops }

abbrev pub script_in : Read → Script
script_in s = record {
  frames = map frame_in s.frames;
  browser = s.browser;
  readers = s.readers;
  order = s.order;
  actions = s.actions;
}

abbrev pub first_frame : ReadFrame → FrameRun
first_frame f = record { tree = f.tree; left = f.ops; journal = []; waiting = [] }

-- what a run asks of a script: there is a frame, no two have one tree, the browser's operations are at their trees, and nodes are put without children
pub record CanRun (s : Read) : Type 0 where
  pub some : 1 ≤ length s.frames
  pub apart : NoneTwice (trees_in s)
  pub named : AllNamed (trees_in s) s.browser
  pub leaves : All HasLeaves s.frames

-- ---- from closed parts

abbrev pub of_tree : ℕ → List Packet → List Packet
of_tree t = filter (λ (p : Packet). p.tree == t)

-- each script's frame goes on from its closed frame, with so many operations behind it, and the packets of its tree wait
abbrev pub resumed_frames : List ReadFrame → List Journaled → List ℕ → List Packet → List FrameRun
resumed_frames [] js ns ps = []
resumed_frames (f ∷ fs) [] ns ps = []
resumed_frames (f ∷ fs) (j ∷ js) [] ps = []
resumed_frames (f ∷ fs) (j ∷ js) (n ∷ ns) ps =
    record { tree = f.tree; left = drop n f.ops; journal = j.journal; waiting = of_tree f.tree ps } ∷ resumed_frames fs js ns ps

abbrev pub resumed_readers : List (List TimedQuery) → List ℕ → List (List TimedQuery)
resumed_readers [] ns = []
resumed_readers (q ∷ qs) [] = []
resumed_readers (q ∷ qs) (n ∷ ns) = drop n q ∷ resumed_readers qs ns

-- a frame without waiting packets, of whose operations so many are done
abbrev pub seat_on : ReadFrame → Journaled → ℕ → FrameRun
seat_on f j n = record { tree = j.tree; left = drop n f.ops; journal = j.journal; waiting = [] }

abbrev pub seats_by : List ReadFrame → List Journaled → List ℕ → List FrameRun
seats_by fs js ns = map (λ (p : (ReadFrame × Journaled) × ℕ). seat_on p.0.0 p.0.1 p.1) (zip (zip fs js) ns)

-- readers' queries, of which so many are asked
abbrev pub readers_by : List (List TimedQuery) → List ℕ → List (List TimedQuery)
readers_by qs ns = map (λ (p : List TimedQuery × ℕ). drop p.1 p.0) (zip qs ns)

-- a packet, or packets, put behind those that wait of their tree
abbrev pub put_in : Packet → FrameRun → FrameRun
put_in p f = if p.tree == f.tree then record f { waiting = f.waiting ++ p ∷ [] } else f

abbrev pub put_all : List Packet → FrameRun → FrameRun
put_all ps f = record f { waiting = f.waiting ++ of_tree f.tree ps }

abbrev pub resumed : Read → List Journaled → ForestParts → Counts → State
resumed s js parts done = record {
  frames = resumed_frames s.frames js done.frames.items parts.waiting.items;
  browser = drop done.browser s.browser;
  readers = resumed_readers s.readers done.readers.items;
  history = parts.forest.history;
}

-- each count is at most the length of its list, and there are as many counts as lists
abbrev pub AreWithin : {X : Type 0} → List (List X) → List ℕ → Type 0
AreWithin [] [] = Unit {0}
AreWithin [] (n ∷ ns) = ⊥
AreWithin (xs ∷ xss) [] = ⊥
AreWithin (xs ∷ xss) (n ∷ ns) = (n ≤ length xs) × AreWithin xss ns

-- what a resumed run asks of its parts: they have the script's trees in their order, the counts are within the lists, each waiting packet is of one of the trees, the packets fit the journals, and no frame is short
pub record CanResume (s : Read) (js : List Journaled) (parts : ForestParts) (done : Counts) : Type 0 where
  pub runs : CanRun s
  pub frames : map (λ (j : Journaled). j.tree) js ≡ trees_in s
  pub forest : parts.forest.trees ≡ trees_in s
  pub frame_counts : AreWithin (map (λ (f : ReadFrame). f.ops) s.frames) done.frames.items
  pub browser_count : done.browser ≤ length s.browser
  pub waiting : All (λ (p : Packet). contains (trees_in s) p.tree ≡ true) parts.waiting.items
  pub reader_counts : AreWithin s.readers done.readers.items
  pub stands : Stands (resumed s js parts done)
  pub whole : All (λ (j : Journaled). is_short j.tree j.journal ≡ false) js
