-- What the parts of a run have done, and what they appended to a buffer.
use Rattle.std.specs.Prelude.{◌≡◌, ◌<◌, ◌+◌, ℕ, List, ◌++◌, length, take, codes, Option, Some, None, is_some, true}
use Rattle.ax_ask.specs.declared.op.Item.{Item}
use Rattle.ax_ask.specs.declared.line.Line.{Line}
use Rattle.ax_run_rules.specs.States.{State, Run}
use Rattle.ax_run_rules.specs.Steps.{run}
use Rattle.ax_run_rules.specs.Finale.{finale_of, finished}
use Rattle.ax_run_rules.specs.LineText.{lines_text}
use Rattle.ax_run_rules.specs.ReplayText.{ended_text}
use Rattle.ax_script.specs.declared.script.Script.{Script}
use Rattle.ax_core.specs.Finishing.{IsFinale}
use Rattle.ax_core.specs.Standing.{at, IsWhole}
use Rattle.ax_core.specs.Starting.{script_in}
use Rattle.ax_top.specs.declared.running.Ran.{Ran}
use Rattle.ax_top.specs.declared.running.Ran.TheVariants.{Whole, Missing}
use Rattle.ax_top.specs.Runs.{replay_of, missing_item}

-- each item of the order was there in its turn; the state stands after them, and the bytes grew by their lines
pub record AreDone (s : State) (o : List Item) (new : State) (before after : List ℕ) : Type 0 where
  pub end : Run
  pub ran : run o (at s) ≡ Some end
  pub state : end.state ≡ new
  pub whole : IsWhole new
  pub text : after ≡ before ++ lines_text end.lines

-- the item i of the order, from 1, isn't there in its turn, and those before it are
pub record IsMissing (r : Run) (o : List Item) (i : ℕ) : Type 0 where
  pub front : ℕ
  pub number : i ≡ front + 1
  pub among : front < length o
  pub there : is_some (run (take front o) r) ≡ true
  pub missing : run (take i o) r ≡ None

abbrev pub Ordered : State → List Item → State → List ℕ → List ℕ → Option ℕ → Type 0
Ordered s o new before after None = AreDone s o new before after
Ordered s o new before after (Some i) = IsMissing (at s) o i

-- the finale was done, and the bytes grew by its lines
pub record IsTold (s new : State) (before after : List ℕ) : Type 0 where
  pub lines : List Line
  pub is : IsFinale s new lines
  pub whole : IsWhole new
  pub text : after ≡ before ++ lines_text lines

-- the finale was done, and the bytes grew by its lines and by the dump
pub record IsEnded (s new : State) (before after : List ℕ) : Type 0 where
  pub end : Run
  pub is : finale_of (at s) ≡ Some end
  pub state : end.state ≡ new
  pub whole : IsWhole new
  pub text : after ≡ before ++ (codes "finale\n" ++ ended_text end)

-- the run of the script's own order with its finale comes to this state and tells this text
pub record IsRun (s : Script) (new : State) (text : List ℕ) : Type 0 where
  pub end : Run
  pub ran : finished (script_in s) s.order ≡ Some end
  pub state : end.state ≡ new
  pub whole : IsWhole new
  pub told : replay_of s ≡ Some text

-- the state and the text of the script's run, or the number of the first item that isn't there in its turn
abbrev pub RanAs : Script → Ran → Type 0
RanAs s (Whole core text) = (missing_item s ≡ None) × IsRun s core text.items
RanAs s (Missing i) = missing_item s ≡ Some i
