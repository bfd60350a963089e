-- The finale of each run is there, and so are its texts.
use Rattle.std.specs.Prelude.{ℕ, ◌≡◌, true, List, map, Some, is_some}
use Rattle.ax_trees.specs.Lists.{NoneTwice}
use Rattle.ax_ask.specs.declared.op.Item.{Item}
use Rattle.ax_ask.specs.Calls.{AllNamed}
use Rattle.ax_run_rules.specs.Scripts.{Script, FrameScript}
use Rattle.ax_run_rules.specs.States.{State, Run, begin, trees_of, without_lines}
use Rattle.ax_run_rules.specs.Steps.{run}
use Rattle.ax_run_rules.specs.Finale.{finale_of}
use Rattle.ax_run_rules.specs.ReplayText.{replay_text}
use Rattle.ax_run_rules.specs.CombineText.{combine_text}
use Rattle.ax_run_rules.specs.ActText.{act_text}

abbrev pub trees_in : Script → List ℕ
trees_in s = map (λ (f : FrameScript). f.tree) s.frames

-- the frames' trees differ, and the browser's operations are at them
pub record HasItsTrees (s : Script) : Type 0 where
  pub apart : NoneTwice (trees_in s)
  pub named : AllNamed (trees_in s) s.browser

pub record StateHasItsTrees (s : State) : Type 0 where
  pub apart : NoneTwice (trees_of s)
  pub named : AllNamed (trees_of s) s.browser

-- Each run of a sound script has its finale.
abbrev pub TheFinaleIsThere : Type 0
TheFinaleIsThere = (s : Script) (o : List Item) (r : Run) → HasItsTrees s → run o (begin s) ≡ Some r → is_some (finale_of (without_lines r)) ≡ true

-- So has each sound state, whatever its journals, history and waiting packets.
abbrev pub EachStateHasItsFinale : Type 0
EachStateHasItsFinale = (r : Run) → StateHasItsTrees r.state → is_some (finale_of r) ≡ true

-- what a run's order gives
pub record HasTexts (s : Script) : Type 0 where
  pub combined : is_some (combine_text s) ≡ true
  pub acted : is_some (act_text s) ≡ true

-- The text of each order that is there, and the longer texts of the script's own order.
pub record TextsOf (s : Script) : Type 0 where
  pub replayed : (o : List Item) (r : Run) → run o (begin s) ≡ Some r → is_some (replay_text s o) ≡ true
  pub own : (r : Run) → run s.order (begin s) ≡ Some r → HasTexts s

abbrev pub TheTextsAreThere : Type 0
TheTextsAreThere = (s : Script) → HasItsTrees s → TextsOf s
