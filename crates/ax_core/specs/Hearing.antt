-- What those have heard who are told the lines of a finale as they come.
use Rattle.std.specs.Prelude.{ℕ, ◌≡◌, Bool, true, false, List, [], ◌∷◌, slice_get, Some}
use Rattle.ax_ask.specs.declared.op.TimedOp.{TimedOp}
use Rattle.ax_ask.specs.declared.query.TimedQuery.{TimedQuery}
use Rattle.ax_ask.specs.declared.line.Line.{Line}
use Rattle.ax_run_rules.specs.States.{FrameRun, State, Run}
use Rattle.ax_core.specs.Finishing.{run_of, IsFinished, IsFinale}
use Rattle.ax_core.specs.Standing.{IsWhole}

-- a listener after all of the lines, in turn
abbrev pub all_heard : {A : Type 0} → (A → Line → A) → A → List Line → A
all_heard heard a [] = a
all_heard heard a (l ∷ ls) = all_heard heard (heard a l) ls

-- the finale came to its end, and the listener has heard its lines
pub record HearsFinale {A : Type 0} (heard : A → Line → A) (s new : State) (a b : A) : Type 0 where
  pub lines : List Line
  pub told : b ≡ all_heard heard a lines
  pub finished : IsFinished s new lines
  pub ruled : IsWhole s → IsFinale s new lines

-- ---- pieces of work

abbrev pub IfDone : Bool → Type 0 → Type 0
IfDone true X = X
IfDone false X = Unit {0}

-- A piece of work between two states: whatever lines were heard before it, those that it tells were heard behind them. Of a piece that was broken off it isn't said what was heard.
pub record Hears {A : Type 0} (heard : A → Line → A) (P : Bool → Run → Run → Type 0) (done : Bool) (s new : State) (a b : A) : Type 0 where
  pub behind : (z : A) (before : List Line) → a ≡ all_heard heard z before → (lines : List Line) × (P done (run_of s before) (run_of new lines) × IfDone done (b ≡ all_heard heard z lines))

-- the work at the frame or the reader at a place, from 0, or at the browser's next operation
abbrev pub AtFrame : ℕ → (FrameRun → Bool → Run → Run → Type 0) → Bool → Run → Run → Type 0
AtFrame at P b r e = (f : FrameRun) → slice_get r.state.frames at ≡ Some f → P f b r e

abbrev pub AtReader : ℕ → (List TimedQuery → Bool → Run → Run → Type 0) → Bool → Run → Run → Type 0
AtReader at P b r e = (q : List TimedQuery) → slice_get r.state.readers at ≡ Some q → P q b r e

abbrev pub AtNext : (TimedOp → Bool → Run → Run → Type 0) → Bool → Run → Run → Type 0
AtNext P b r e = (o : TimedOp) → slice_get r.state.browser 0 ≡ Some o → P o b r e
