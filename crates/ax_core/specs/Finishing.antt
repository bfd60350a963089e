-- What a finale does: its five parts in turn, item by item, each by the rule of steps or as a pass that completes a bundle; and the points at which it may stop.
use Rattle.std.specs.Prelude.{ℕ, ◌≡◌, ◌⊎◌, Bool, true, false, List, [], ◌∷◌, ◌++◌, length, replicate, Option, Some, None}
use Rattle.ax_tree.specs.Journals.{pending}
use Rattle.ax_ask.specs.declared.op.FrameOp.TheVariants as ops
use Rattle.ax_ask.specs.declared.op.TimedOp.{TimedOp}
use Rattle.ax_ask.specs.declared.op.Item.{Item}
use Rattle.ax_ask.specs.declared.op.Item.TheVariants as items
use Rattle.ax_ask.specs.declared.line.Line.{Line}
use Rattle.ax_ask.specs.declared.line.Line.TheVariants as lines
use Rattle.ax_run_rules.specs.States.{FrameRun, State, Run, trees_of, find_frame, with_frame, frame_now}
use Rattle.ax_run_rules.specs.Steps.{next_token, do_ask}
use Rattle.ax_run_rules.specs.Finale.{ops_left, packets_left, queries_left, delivery_of, is_behind, finale_of}
use Rattle.ax_core.specs.FrameRuns.{IsDone, with_short}
use Rattle.ax_core.specs.Items.{Steps, IsCut}
use Rattle.ax_core.specs.Standing.{at}

abbrev pub run_of : State → List Line → Run
run_of s ls = record { state = s; lines = ls }

-- ---- Pieces of work are relations between two runs: true, where the second stands at their end; false, where it stands at a point of them.

abbrev pub NoWork : Bool → Run → Run → Type 0
NoWork true r e = e ≡ r
NoWork false r e = ⊥

-- the first piece, and then the second
abbrev pub Then : (Bool → Run → Run → Type 0) → (Bool → Run → Run → Type 0) → Bool → Run → Run → Type 0
Then P Q true r e = (m : Run) × (P true r m × Q true m e)
Then P Q false r e = P false r e ⊎ ((m : Run) × (P true r m × Q false m e))

-- a piece for each of the list, in turn
abbrev pub ForEach : {A : Type 0} → (A → Bool → Run → Run → Type 0) → List A → Bool → Run → Run → Type 0
ForEach P [] = NoWork
ForEach P (x ∷ xs) = Then (P x) (ForEach P xs)

-- A call that tells a line. Where there is no memory it has done nothing, or it leaves what it broke off, or all is done and not told.
abbrev pub Call : (State → State → Line → Type 0) → (State → State → Type 0) → Bool → Run → Run → Type 0
Call Does Breaks true r e = (l : Line) × (Does r.state e.state l × (e.lines ≡ r.lines ++ l ∷ []))
Call Does Breaks false r e = (e.lines ≡ r.lines) × ((e.state ≡ r.state) ⊎ (Breaks r.state e.state ⊎ ((l : Line) × Does r.state e.state l)))

-- ---- the parts of a finale

abbrev pub Told : Item → Bool → Run → Run → Type 0
Told i = Call (λ s e l. Steps s i e l) (λ s e. IsCut s i e)

abbrev pub Turns : List Item → Bool → Run → Run → Type 0
Turns o = ForEach Told o

-- a frame's turns: its item, as often as so much of it is left
abbrev pub turns_of : (ℕ → Item) → (FrameRun → ℕ) → FrameRun → List Item
turns_of turn size f = replicate (size f) (turn f.tree)

abbrev pub frame_turn : ℕ → Item
frame_turn t = items.Frame t

abbrev pub receive_turn : ℕ → Item
receive_turn t = items.Receive t

abbrev pub ops_of : FrameRun → ℕ
ops_of f = length f.left

abbrev pub waits_of : FrameRun → ℕ
waits_of f = length f.waiting

-- an operation of the browser, with the delivery of its token
abbrev pub Serves : TimedOp → Bool → Run → Run → Type 0
Serves o b r e = Turns (items.Browser ∷ delivery_of r.state o.op) b r e

abbrev pub IsAsked : ℕ → State → State → Line → Type 0
IsAsked t s e l = do_ask (at s) t ≡ record { state = e; lines = l ∷ [] }

-- the tree's frame passes, whatever is left of its operations; or its pass, that had something to send, was broken off
pub record IsPassed (t : ℕ) (s e : State) (l : Line) : Type 0 where
  pub frame : FrameRun
  pub found : find_frame s t ≡ Some frame
  pub after : FrameRun
  pub done : IsDone frame ops.Pass frame.left after l
  pub state : e ≡ with_frame s after

pub record IsPassCut (t : ℕ) (s e : State) : Type 0 where
  pub frame : FrameRun
  pub found : find_frame s t ≡ Some frame
  pub pends : pending (frame_now frame) ≡ true
  pub state : e ≡ with_frame s (with_short frame)

abbrev pub Asks : ℕ → Bool → Run → Run → Type 0
Asks t = Call (λ s e l. IsAsked t s e l) (λ s e. ⊥)

abbrev pub Passes : ℕ → Bool → Run → Run → Type 0
Passes t = Call (λ s e l. IsPassed t s e l) (λ s e. IsPassCut t s e)

-- ask, deliver, pass, receive
abbrev pub Refreshes : ℕ → Bool → Run → Run → Type 0
Refreshes t b r e = Then (Asks t) (Then (Told (items.Deliver t (record { 0 = next_token r.state.history t }))) (Then (Passes t) (Told (items.Receive t)))) b r e

abbrev pub RefreshesIf : Bool → ℕ → Bool → Run → Run → Type 0
RefreshesIf true t = Refreshes t
RefreshesIf false t = NoWork

-- the tree is refreshed where it is behind its frame
abbrev pub CatchesUp : ℕ → Bool → Run → Run → Type 0
CatchesUp t b r e = (f : FrameRun) × ((find_frame r.state t ≡ Some f) × RefreshesIf (is_behind r.state f) t b r e)

-- the five parts in turn, each from where the one before it came to
abbrev pub Finishes : Bool → Run → Run → Type 0
Finishes =
    Then (λ b r e. Turns (ops_left r.state) b r e)
    (Then (λ b r e. Turns (packets_left r.state) b r e)
    (Then (λ b r e. ForEach Serves r.state.browser b r e)
    (Then (λ b r e. ForEach CatchesUp (trees_of r.state) b r e) (λ b r e. Turns (queries_left r.state) b r e))))

-- ---- what is said of a finale

-- it came to its end
abbrev pub IsFinished : State → State → List Line → Type 0
IsFinished s new ls = Finishes true (at s) (run_of new ls)

-- it stands at a point
pub record IsWithin (s new : State) : Type 0 where
  pub lines : List Line
  pub stops : Finishes false (at s) (run_of new lines)

-- it is the rule's
abbrev pub IsFinale : State → State → List Line → Type 0
IsFinale s new ls = finale_of (at s) ≡ Some (record { state = new; lines = ls })

-- ---- the token of a line

-- the delivery of the token that the line tells
abbrev pub delivery_in : Line → Option Item
delivery_in (lines.Asked t (Some k)) = Some (items.Deliver t k)
delivery_in l = None
