-- The places of the next lines while an order's lines are put.
use Rattle.std.specs.Prelude.{ℕ, suc, ◌≡◌, List, map, length, filter, slice_get, Some}
use Rattle.std.specs.List.{enumerate_from}
use Rattle.ax_ask.specs.declared.op.Item.{Item}
use Rattle.ax_ask.specs.declared.line.Line.{Line}
use Rattle.ax_run_rules.specs.Fair.{is_reader}
use Rattle.ax_order_laws.specs.Told as told
use Rattle.ax_order_laws.specs.Told.{is_frame, is_entry}
use Rattle.ax_placed.specs.declared.told.FrameTold.{FrameTold}
use Rattle.ax_placed.specs.declared.told.Told.{Told}

abbrev pub trees_of : List FrameTold → List ℕ
trees_of fs = map (λ (f : FrameTold). f.tree) fs

abbrev pub frame_told : FrameTold → told.FrameTold
frame_told f = record { tree = f.tree; lines = f.lines }

abbrev pub told_of : Told → told.LinesTold
told_of t = record { frames = map frame_told t.frames; entries = t.entries; readers = t.readers }

-- the place of each frame, by its tree's number
pub record ArePlaces (frames : List FrameTold) (places : List ℕ) : Type 0 where
  pub size : length places ≡ 1001
  pub place : (i : ℕ) (f : FrameTold) → slice_get frames i ≡ Some f → slice_get places f.tree ≡ Some i

-- the next line of a tree's frame, and of a reader
pub record FrameGoesOn (frames : List FrameTold) (places frame_at : List ℕ) (tree : ℕ) : Type 0 where
  pub place : ℕ
  pub frame : FrameTold
  pub at : ℕ
  pub line : Line
  pub placed : slice_get places tree ≡ Some place
  pub framed : slice_get frames place ≡ Some frame
  pub begun : slice_get frame_at place ≡ Some at
  pub there : slice_get frame.lines at ≡ Some line

pub record ReaderGoesOn (readers : List (List Line)) (reader_at : List ℕ) (number : ℕ) : Type 0 where
  pub place : ℕ
  pub lines : List Line
  pub at : ℕ
  pub line : Line
  pub numbered : number ≡ suc place
  pub listed : slice_get readers place ≡ Some lines
  pub begun : slice_get reader_at place ≡ Some at
  pub there : slice_get lines at ≡ Some line

-- the places after the items `before`: as many lines of each list as it has items there
pub record AreAt (t : Told) (before : List Item) (frame_at : List ℕ) (entry_at : ℕ) (reader_at : List ℕ) : Type 0 where
  pub frames : frame_at ≡ map (λ (f : FrameTold). length (filter (is_frame f.tree) before)) t.frames
  pub entry : entry_at ≡ length (filter is_entry before)
  pub readers : reader_at ≡ map (λ (r : ℕ × List Line). length (filter (is_reader r.0) before)) (enumerate_from 1 t.readers)
