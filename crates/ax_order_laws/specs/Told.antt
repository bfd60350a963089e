-- The lines of the calls, list by list, and their places in an order: each item has the next line of its list.
use Rattle.std.specs.Prelude.{ℕ, zero, suc, ◌==◌, Bool, true, false, if◌then◌else◌, List, [], ◌∷◌, ◌++◌, length, map, take, filter, find, slice_get, Option, Some, None, option_map, option_and_then}
use Rattle.std.specs.List.{enumerate_from}
use Rattle.ax_tree.specs.declared.packet.JEntry.{JEntry}
use Rattle.ax_tree.specs.declared.packet.HEntry.{HEntry}
use Rattle.ax_tree.specs.declared.packet.HEntry.TheVariants as events
use Rattle.ax_tree.specs.Journals.{frame_of}
use Rattle.ax_ask.specs.declared.op.Item.{Item}
use Rattle.ax_ask.specs.declared.op.Item.TheVariants.{Frame, Receive, Browser, Deliver, Reader}
use Rattle.ax_ask.specs.declared.query.TimedQuery.{TimedQuery}
use Rattle.ax_ask.specs.declared.line.Line.{Line}
use Rattle.ax_ask.specs.declared.line.Line.TheVariants as lines
use Rattle.ax_rules.specs.Histories.{is_gone}
use Rattle.ax_rules.specs.Mirrors.{verdict_of, forest_of}
use Rattle.ax_run_rules.specs.Replies.{answer_of}
use Rattle.ax_run_rules.specs.Scripts.{Script}
use Rattle.ax_run_rules.specs.FrameSteps.{op_line}
use Rattle.ax_run_rules.specs.Steps.{next_token, probe_note, name_of}
use Rattle.ax_run_rules.specs.Fair.{is_reader}
use Rattle.ax_run_rules.specs.Taken.{ClosedFrame, Closed}
use Rattle.ax_order_laws.specs.Parts.{op_in, list_at, trees_in}

-- ---- the lines

-- the lines of a frame's operations, each at the entries before it
abbrev pub op_lines : ℕ → List JEntry → List JEntry → List Line
op_lines t before [] = []
op_lines t before (e ∷ j) = map (op_line t (frame_of t before)) (op_in e) ++ op_lines t (before ++ e ∷ []) j

-- the line of the call that adds the entry e to the history h
abbrev pub entry_line : List HEntry → HEntry → Line
entry_line h (events.Got p) = lines.Received p.tree (verdict_of h p)
entry_line h (events.Asked t) = lines.Asked t (if is_gone h t then None else Some (record { 0 = next_token h t }))
entry_line h (events.Ended t) = lines.Destroyed t (is_gone h t)
entry_line h (events.Probed t u) = lines.Probed t (probe_note h t u)

abbrev pub entry_lines : List HEntry → List HEntry → List Line
entry_lines before [] = []
entry_lines before (e ∷ h) = entry_line before e ∷ entry_lines (before ++ e ∷ []) h

-- the line of a query of the reader at the place k, from 0, whose snapshot counted n entries
abbrev pub query_line : Closed → ℕ → TimedQuery → ℕ → Line
query_line c k q n = lines.Answered (suc k) (name_of q.query) (answer_of (forest_of (trees_in c) (take n c.history)) q.query)

abbrev pub query_lines : Closed → ℕ → List TimedQuery → List ℕ → List Line
query_lines c k [] ns = []
query_lines c k (q ∷ qs) [] = []
query_lines c k (q ∷ qs) (n ∷ ns) = query_line c k q n ∷ query_lines c k qs ns

-- ---- their places

-- what the calls told: one line for each operation of a frame, for each entry of the history, and for each query
pub record FrameTold : Type 0 where
  pub tree : ℕ
  pub lines : List Line

pub record LinesTold : Type 0 where
  pub frames : List FrameTold
  pub entries : List Line
  pub readers : List (List Line)

unfoldable pub told_by : Script → Closed → List (List ℕ) → LinesTold
told_by s c looks = record {
  frames = map (λ (f : ClosedFrame). record { tree = f.tree; lines = op_lines f.tree [] f.journal }) c.frames;
  entries = entry_lines [] c.history;
  readers = map (λ (r : ℕ × List TimedQuery). query_lines c r.0 r.1 (list_at looks r.0)) (enumerate_from 0 s.readers);
}

abbrev pub lines_or : Option FrameTold → List Line
lines_or None = []
lines_or (Some f) = f.lines

abbrev pub is_frame : ℕ → Item → Bool
is_frame t (Frame u) = u == t
is_frame t i = false

-- receipts and browser operations each add an entry to the history
abbrev pub is_entry : Item → Bool
is_entry (Receive t) = true
is_entry Browser = true
is_entry i = false

-- the lines of a reader's queries, by its number, from 1
abbrev pub reader_lines : LinesTold → ℕ → List Line
reader_lines l zero = []
reader_lines l (suc k) = list_at l.readers k

-- the line of an item after the items before it: the next one of its list; a delivery's is its own
abbrev pub line_at : LinesTold → List Item → Item → Option Line
line_at l before (Frame t) = slice_get (lines_or (find (λ (f : FrameTold). f.tree == t) l.frames)) (length (filter (is_frame t) before))
line_at l before (Receive t) = slice_get l.entries (length (filter is_entry before))
line_at l before Browser = slice_get l.entries (length (filter is_entry before))
line_at l before (Deliver t n) = Some (lines.Delivered t n)
line_at l before (Reader k) = slice_get (reader_lines l k) (length (filter (is_reader k) before))

-- the lines of an order's items after the items before it, where none is missing
abbrev pub placed : LinesTold → List Item → List Item → Option (List Line)
placed l before [] = Some []
placed l before (i ∷ o) = option_and_then (λ (x : Line). option_map (λ (xs : List Line). x ∷ xs) (placed l (before ++ i ∷ []) o)) (line_at l before i)
