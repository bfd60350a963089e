-- The rules of steps, told by what they make of a frame, of the history and of the lines.
use Rattle.std.proofs.Common.{ℕ, ◌≡◌, refl}
use Rattle.ax_tree.specs.declared.edit.Edit.{Edit}
use Rattle.ax_tree.specs.declared.edit.Edit.TheVariants as edits
use Rattle.ax_tree.specs.Tree.{Tree}
use Rattle.ax_tree.specs.Edits.{refusal}
use Rattle.ax_ask.specs.declared.op.BrowserOp.{BrowserOp}
use Rattle.ax_ask.specs.declared.op.BrowserOp.TheVariants as browsers
use Rattle.ax_run_rules.specs.States.{Run, with_entry, with_line}
use Rattle.ax_run_rules.specs.FrameSteps.{edit_line}
use Rattle.ax_run_rules.specs.Steps.{do_browser, do_ask}
use Rattle.ax_core.specs.FrameRuns.{told_edit}
use Rattle.ax_core.specs.Receipts.{entry_by, line_by}

pub edit_told : (t : ℕ) (s : Tree) (e : Edit) → edit_line t s e ≡ told_edit t e (refusal e s)
unfolding edit_line
edit_told t s (edits.Root n) = refl
edit_told t s (edits.Insert p i n) = refl
edit_told t s (edits.Remove z) = refl
edit_told t s (edits.Move z p i) = refl
edit_told t s (edits.Set e) = refl
edit_told t s (edits.Tree e) = refl

pub browser_done : (r : Run) (o : BrowserOp) → do_browser r o ≡ with_line r (with_entry r.state (entry_by o)) (line_by r.state.history o)
unfolding do_browser do_ask
browser_done r (browsers.Ask t) = refl
browser_done r (browsers.Destroy t) = refl
browser_done r (browsers.Probe t u) = refl
