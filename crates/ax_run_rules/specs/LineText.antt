-- How the line of each step is printed.
use Rattle.std.specs.Prelude.{ℕ, Bool, true, false, List, [], codes, flat_map, Option, Some, None, unwrap_or}
use Rattle.std.specs.Fmt.{decimal}
use Rattle.ax_attrs.specs.Entry.{name_of}
use Rattle.ax_attrs.specs.Tables.{event_rows}
use Rattle.ax_tree.specs.declared.edit.EditErr.{EditErr}
use Rattle.ax_tree.specs.declared.edit.EditErr.TheVariants as errors
use Rattle.ax_tree.specs.declared.edit.MarkErr.{MarkErr}
use Rattle.ax_tree.specs.declared.edit.MarkErr.TheVariants as marks
use Rattle.ax_tree.specs.declared.update.Refusal.{Refusal}
use Rattle.ax_tree.specs.declared.update.Refusal.TheVariants as refusals
use Rattle.ax_tree.specs.declared.verdict.Event.{Event}
use Rattle.ax_tree.specs.declared.verdict.Verdict.{Verdict}
use Rattle.ax_tree.specs.declared.verdict.Verdict.TheVariants as verdicts
use Rattle.ax_base.specs.declared.pass.Token.{Token}
use Rattle.ax_ask.specs.declared.action.ActNote.{ActNote}
use Rattle.ax_ask.specs.declared.action.ActNote.TheVariants as acts
use Rattle.ax_ask.specs.declared.line.Line.{Line}
use Rattle.ax_ask.specs.declared.line.Line.TheVariants as lines
use Rattle.ax_ask.specs.declared.op.FrameOpName.TheVariants as ops
use Rattle.ax_ask.specs.Words.{op_name, frame_op_name, query_name, do_name}
use Rattle.ax_ask.specs.declared.line.UpdateNote.{UpdateNote}
use Rattle.ax_ask.specs.declared.line.PassNote.{PassNote}
use Rattle.ax_ask.specs.declared.line.PassNote.TheVariants as passes
use Rattle.ax_ask.specs.declared.line.ProbeNote.{ProbeNote}
use Rattle.ax_ask.specs.declared.line.ProbeNote.TheVariants as probes
use Rattle.ax_run_rules.specs.Writing.{◌⌢◌, listing, with_number, with_numbers, id_text}
use Rattle.ax_run_rules.specs.ReplyText.{reply_text}

-- ---- edits and touches

abbrev pub edit_result : Option EditErr → List ℕ
edit_result None = codes "ok"
edit_result (Some errors.NoRoot) = codes "NoRoot"
edit_result (Some (errors.UnknownNode z)) = with_number (codes "UnknownNode") z
edit_result (Some (errors.IdTaken z)) = with_number (codes "IdTaken") z
edit_result (Some (errors.BadIndex i len)) = with_numbers (codes "BadIndex") i len
edit_result (Some (errors.IsRoot z)) = with_number (codes "IsRoot") z
edit_result (Some (errors.IntoItself z)) = with_number (codes "IntoItself") z
edit_result (Some (errors.TooMany n)) = with_number (codes "TooMany") n
edit_result (Some (errors.TooDeep n)) = with_number (codes "TooDeep") n
edit_result (Some (errors.BadAttr k)) = with_number (codes "BadAttr") k
edit_result (Some errors.NoMemory) = codes "NoMemory"

abbrev pub touch_name : Bool → List ℕ
touch_name false = frame_op_name ops.Touch
touch_name true = frame_op_name ops.TouchBelow

abbrev pub touch_result : Option MarkErr → List ℕ
touch_result None = codes "ok"
touch_result (Some (marks.UnknownNode z)) = with_number (codes "UnknownNode") z
touch_result (Some marks.NoMemory) = codes "NoMemory"

-- ---- passes

abbrev pub data_text : Bool → List ℕ
data_text true = codes " data"
data_text false = []

unfoldable pub update_line : UpdateNote → List ℕ
update_line u =
    codes "  u clear " ⌢ id_text u.clear ⌢ codes " root " ⌢ id_text u.root ⌢ codes " list " ⌢ listing decimal u.nodes ⌢ data_text u.with_data ⌢ codes "\n"

unfoldable pub pass_text : PassNote → List ℕ
pass_text passes.Nothing = codes "nothing\n"
pass_text (passes.Made m) =
    decimal m.pass.0 ⌢ codes " base " ⌢ decimal m.base.0 ⌢ codes " token " ⌢ decimal m.token.0 ⌢ codes "\n" ⌢ flat_map update_line m.updates

-- ---- receipts

abbrev pub event_node : Option ℕ → List ℕ
event_node None = []
event_node (Some i) = codes ":" ⌢ decimal i

unfoldable pub event_line : Event → List ℕ
event_line e = codes "  e " ⌢ decimal e.tree ⌢ event_node e.node ⌢ codes " " ⌢ unwrap_or (name_of event_rows e.kind) [] ⌢ codes "\n"

unfoldable pub verdict_text : Verdict → List ℕ
verdict_text (verdicts.Applied n es) = with_number (codes "applied") n.0 ⌢ codes "\n" ⌢ flat_map event_line es
verdict_text (verdicts.Stale had want) = with_numbers (codes "stale") had.0 want.0 ⌢ codes "\n"
verdict_text (verdicts.Gap base at) = with_numbers (codes "gap") base.0 at.0 ⌢ codes "\n"
verdict_text verdicts.Gone = codes "gone\n"

-- ---- the browser's operations

abbrev pub token_text : Option Token → List ℕ
token_text None = codes "gone"
token_text (Some n) = with_number (codes "token") n.0

abbrev pub ok_or_gone : Bool → List ℕ
ok_or_gone false = codes "ok"
ok_or_gone true = codes "gone"

abbrev pub refusal_text : Refusal → List ℕ
refusal_text (refusals.BadClear z) = with_number (codes "BadClear") z
refusal_text (refusals.NotInTree z) = with_number (codes "NotInTree") z
refusal_text (refusals.DuplicateChild z) = with_number (codes "DuplicateChild") z
refusal_text (refusals.Reparented z) = with_number (codes "Reparented") z
refusal_text (refusals.Pending z) = with_number (codes "Pending") z
refusal_text (refusals.TooDeep n) = with_number (codes "TooDeep") n
refusal_text refusals.NoMemory = codes "NoMemory"

abbrev pub probe_text : ProbeNote → List ℕ
probe_text (probes.Accepted n) = with_number (codes "accepted") n
probe_text (probes.Refused e) = refusal_text e
probe_text probes.Gone = codes "gone"

-- ---- actions

abbrev pub act_result : ActNote → List ℕ
act_result acts.Ok = codes "ok"
act_result acts.Gone = codes "gone"
act_result acts.NoRoot = codes "NoRoot"
act_result (acts.UnknownNode z) = with_number (codes "UnknownNode") z
act_result (acts.NoContainer z) = with_number (codes "NoContainer") z

-- ---- the whole line

unfoldable pub line_text : Line → List ℕ
line_text (lines.Edited t n z e) = codes "f" ⌢ decimal t ⌢ codes " " ⌢ op_name n ⌢ codes " " ⌢ decimal z ⌢ codes " " ⌢ edit_result e ⌢ codes "\n"
line_text (lines.DataSet t) = codes "f" ⌢ decimal t ⌢ codes " data ok\n"
line_text (lines.Touched t b z e) = codes "f" ⌢ decimal t ⌢ codes " " ⌢ touch_name b ⌢ codes " " ⌢ decimal z ⌢ codes " " ⌢ touch_result e ⌢ codes "\n"
line_text (lines.Passed t n) = codes "f" ⌢ decimal t ⌢ codes " pass " ⌢ pass_text n
line_text (lines.Received t v) = codes "a" ⌢ decimal t ⌢ codes " " ⌢ verdict_text v
line_text (lines.Asked t n) = codes "b ask " ⌢ decimal t ⌢ codes " " ⌢ token_text n ⌢ codes "\n"
line_text (lines.Destroyed t g) = codes "b destroy " ⌢ decimal t ⌢ codes " " ⌢ ok_or_gone g ⌢ codes "\n"
line_text (lines.Probed t n) = codes "b probe " ⌢ decimal t ⌢ codes " " ⌢ probe_text n ⌢ codes "\n"
line_text (lines.Delivered t n) = codes "d" ⌢ decimal t ⌢ codes ":" ⌢ decimal n.0 ⌢ codes "\n"
line_text (lines.Answered k q r) = codes "r" ⌢ decimal k ⌢ codes " " ⌢ query_name q ⌢ codes " = " ⌢ reply_text r ⌢ codes "\n"
line_text (lines.Acted t n z a) = codes "p" ⌢ decimal t ⌢ codes " " ⌢ do_name n ⌢ codes " " ⌢ decimal z ⌢ codes " " ⌢ act_result a ⌢ codes "\n"

unfoldable pub lines_text : List Line → List ℕ
lines_text ls = flat_map line_text ls
