-- What a receipt, an operation of the browser and a query make of the forest's past, and their lines.
use Rattle.std.specs.Prelude.{ℕ, ◌≡◌, if◌then◌else◌, List, [], ◌∷◌, ◌++◌, Option, Some, None}
use Rattle.ax_tree.specs.declared.packet.Packet.{Packet}
use Rattle.ax_tree.specs.declared.packet.HEntry.{HEntry}
use Rattle.ax_tree.specs.declared.packet.HEntry.TheVariants.{Got, Asked, Ended, Probed}
use Rattle.ax_ask.specs.declared.op.BrowserOp.{BrowserOp}
use Rattle.ax_ask.specs.declared.op.BrowserOp.TheVariants as browsers
use Rattle.ax_ask.specs.declared.query.TimedQuery.{TimedQuery}
use Rattle.ax_ask.specs.declared.line.Line.{Line}
use Rattle.ax_ask.specs.declared.line.Line.TheVariants as lines
use Rattle.ax_ask.specs.declared.line.ProbeNote.{ProbeNote}
use Rattle.ax_ask.specs.declared.line.ProbeNote.TheVariants as probes
use Rattle.ax_rules.specs.Histories.{is_gone}
use Rattle.ax_rules.specs.Mirrors.{verdict_of}
use Rattle.ax_run_rules.specs.Replies.{answer_of}
use Rattle.ax_run_rules.specs.Steps.{next_token, probe_note, name_of}
use Rattle.ax_forest.specs.declared.answers.ProbeOut.{ProbeOut}
use Rattle.ax_forest.specs.declared.answers.ProbeOut.TheVariants as outs
use Rattle.ax_forest.specs.Past.{Past, forest_of}

abbrev pub with_entry : Past → HEntry → Past
with_entry p e = record p { history = p.history ++ e ∷ [] }

-- the oldest of the packets is received, and these then wait, or none is there
abbrev pub ReceiptDone : ℕ → Past → List Packet → Past → List Packet → Option Line → Type 0
ReceiptDone t p [] q left o = (o ≡ None) × ((q ≡ p) × (left ≡ []))
ReceiptDone t p (x ∷ xs) q left None = ⊥
ReceiptDone t p (x ∷ xs) q left (Some l) = (l ≡ lines.Received t (verdict_of p.history x)) × ((q ≡ with_entry p (Got x)) × (left ≡ xs))

-- what is told of an update that was tried
abbrev pub note_of : ProbeOut → ProbeNote
note_of (outs.Accepted n) = probes.Accepted n
note_of (outs.Refused e) = probes.Refused e

abbrev pub entry_by : BrowserOp → HEntry
entry_by (browsers.Ask t) = Asked t
entry_by (browsers.Destroy t) = Ended t
entry_by (browsers.Probe t u) = Probed t u

abbrev pub line_by : List HEntry → BrowserOp → Line
line_by h (browsers.Ask t) = lines.Asked t (if is_gone h t then None else Some (record { 0 = next_token h t }))
line_by h (browsers.Destroy t) = lines.Destroyed t (is_gone h t)
line_by h (browsers.Probe t u) = lines.Probed t (probe_note h t u)

-- the next query of the reader of a number is answered, and these are left, or none is there
abbrev pub QueryDone : Past → ℕ → List TimedQuery → List TimedQuery → Option Line → Type 0
QueryDone p k [] left o = (o ≡ None) × (left ≡ [])
QueryDone p k (q ∷ qs) left None = ⊥
QueryDone p k (q ∷ qs) left (Some l) = (l ≡ lines.Answered k (name_of q.query) (answer_of (forest_of p) q.query)) × (left ≡ qs)
