-- What a step does: by the rule, but for passes that complete a bundle.
use Rattle.std.specs.Prelude.{ℕ, ◌≡◌, ◌⊎◌, true, List, [], ◌∷◌, Option, Some, None}
use Rattle.ax_tree.specs.Journals.{pending}
use Rattle.ax_ask.specs.declared.op.FrameOp.{FrameOp}
use Rattle.ax_ask.specs.declared.op.FrameOp.TheVariants as ops
use Rattle.ax_ask.specs.declared.op.Item.{Item}
use Rattle.ax_ask.specs.declared.op.Item.TheVariants as items
use Rattle.ax_ask.specs.declared.line.Line.{Line}
use Rattle.ax_run_rules.specs.States.{FrameRun, State, frame_now, find_frame, with_frame}
use Rattle.ax_run_rules.specs.Steps.{step}
use Rattle.ax_core.specs.declared.answers.CoreErr.{CoreErr}
use Rattle.ax_core.specs.declared.answers.CoreErr.TheVariants.{NotThere, NoMemory}
use Rattle.ax_core.specs.FrameRuns.{Resumes, with_short}
use Rattle.ax_core.specs.Standing.{at, IsWhole}

-- the rule's step gives this state and this line
abbrev pub IsStep : State → Item → State → Line → Type 0
IsStep s i new l = step (at s) i ≡ Some (record { state = new; lines = l ∷ [] })

-- the next operation of the frame is a pass, which completes a bundle
pub record IsResumed (s : State) (i : Item) (new : State) (l : Line) : Type 0 where
  pub tree : ℕ
  pub item : i ≡ items.Frame tree
  pub frame : FrameRun
  pub found : find_frame s tree ≡ Some frame
  pub left : List FrameOp
  pub next : frame.left ≡ ops.Pass ∷ left
  pub after : FrameRun
  pub resumes : Resumes frame left after l
  pub state : new ≡ with_frame s after

-- the step is the rule's; where a frame is short, its pass may complete a bundle
pub record Steps (s : State) (i : Item) (new : State) (l : Line) : Type 0 where
  pub is : IsStep s i new l ⊎ IsResumed s i new l
  pub whole : IsWhole s → IsStep s i new l

-- a pass of the frame that had something to send was broken off for want of memory
pub record IsCut (s : State) (i : Item) (new : State) : Type 0 where
  pub tree : ℕ
  pub item : i ≡ items.Frame tree
  pub frame : FrameRun
  pub found : find_frame s tree ≡ Some frame
  pub left : List FrameOp
  pub next : frame.left ≡ ops.Pass ∷ left
  pub pends : pending (frame_now frame) ≡ true
  pub state : new ≡ with_frame s (with_short frame)

-- what an item does, or that it isn't there
abbrev pub Answers : State → Item → State → Option Line → Type 0
Answers s i new None = (step (at s) i ≡ None) × (new ≡ s)
Answers s i new (Some l) = Steps s i new l

-- why an item isn't done, and what then stands
abbrev pub IsRefused : State → Item → State → CoreErr → Type 0
IsRefused s i new (NotThere j) = (j ≡ i) × ((step (at s) i ≡ None) × (new ≡ s))
IsRefused s i new NoMemory = (new ≡ s) ⊎ IsCut s i new
