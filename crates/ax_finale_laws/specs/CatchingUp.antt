-- From each state whose packets are those of its frames' journals, each live tree catches up in the finale, and once more after actions; and what stands then is of the lists and the journals alone.
use Rattle.std.specs.Prelude.{ℕ, ◌≡◌, Bool, false, ◌||◌, if◌then◌else◌, List, [], map, Some, None}
use Rattle.ax_trees.specs.Trees.{is_bare}
use Rattle.ax_trees.specs.Lists.{NoneTwice}
use Rattle.ax_tree.specs.Tree.{Tree, empty}
use Rattle.ax_tree.specs.Forest.{Forest}
use Rattle.ax_tree.specs.Journals.{source_from, source_of}
use Rattle.ax_ask.specs.declared.action.Action.{Action}
use Rattle.ax_rules.specs.Histories.{is_gone}
use Rattle.ax_rules.specs.Mirrors.{mirror_of}
use Rattle.ax_run_rules.specs.States.{FrameRun, State, Run, trees_of, find_frame, forest_now}
use Rattle.ax_run_rules.specs.FrameSteps.{entry_of}
use Rattle.ax_run_rules.specs.Finale.{catch_up, finale_of}
use Rattle.ax_run_rules.specs.Actions.{after_actions}
use Rattle.ax_run_laws.specs.Laws.{is_destroyed}
use Rattle.ax_finale_laws.specs.Resumed.{PacketsFit}

-- where the tree hasn't ended, and its frame's source has a root, the mirror is that source
abbrev pub IsUpToDate : State → ℕ → FrameRun → Type 0
IsUpToDate s t f = is_gone s.history t ≡ false → is_bare (source_of t f.journal).trees ≡ false → mirror_of s.history t ≡ source_of t f.journal

-- Each tree catches up in the finale.
abbrev pub EachStateCatchesUp : Type 0
EachStateCatchesUp = (r e : Run) (t : ℕ) (f : FrameRun) → PacketsFit r.state → finale_of r ≡ Some e → find_frame e.state t ≡ Some f → IsUpToDate e.state t f

-- the actions are done at the end of a run, and no line stands yet
abbrev pub acted_on : List Action → Run → Run
acted_on az e = record { state = after_actions az e.state; lines = [] }

-- Each tree catches up once more, after the actions that follow a finale.
abbrev pub EachActionCatchesUp : Type 0
EachActionCatchesUp =
    (r e q : Run) (az : List Action) (t : ℕ) (f : FrameRun) → PacketsFit r.state → finale_of r ≡ Some e → catch_up (trees_of e.state) (acted_on az e) ≡ Some q → find_frame q.state t ≡ Some f
    → IsUpToDate q.state t f

-- the source once all that the frame's list has left is done; the empty tree where that has no root
abbrev pub tree_to_come : FrameRun → Tree
tree_to_come f = let s = source_from (map entry_of f.left) (source_of f.tree f.journal) in if is_bare s.trees then empty f.tree else s

-- the tree has ended, or is to be destroyed
abbrev pub will_be_gone : State → ℕ → Bool
will_be_gone s t = is_gone s.history t || is_destroyed s.browser t

-- the forest that a state leaves, whatever its waiting packets and mirrors
abbrev pub forest_to_come : State → Forest
forest_to_come s = map (λ (f : FrameRun). record { id = f.tree; tree = if will_be_gone s f.tree then None else Some (tree_to_come f) }) s.frames

-- After the finale the forest is of the lists and the journals alone, where no tree has two frames.
abbrev pub ForestIsOfTheLists : Type 0
ForestIsOfTheLists = (r e : Run) → PacketsFit r.state → NoneTwice (trees_of r.state) → finale_of r ≡ Some e → forest_now e.state ≡ forest_to_come r.state
