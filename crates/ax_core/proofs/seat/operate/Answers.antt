use Rattle.std.proofs.Common.{sym, subst, List, IfOk}
use Rattle.ax_tree.specs.declared.packet.JEntry.TheVariants as entries
use Rattle.ax_ask.specs.declared.op.FrameOp.{FrameOp}
use Rattle.ax_core.specs.FrameRuns.{in_run, IsDone}
use Rattle.ax_core.proofs.Operations.{edit_done, touch_done, touch_below_done, keeps_in_run}
use Rattle.ax_core.proofs.seat.operate.Goals as goal

pub returns-in-Edit-clause-done : goal.returns-in-Edit-clause-done
returns-in-Edit-clause-done c =
    subst (λ (o : FrameOp). IfOk c.edit.result (λ l. (left : List FrameOp) → IsDone (in_run c.args.frame.now left c.args.waiting.now.items) o left (in_run c.edit.new.frame left c.args.waiting.now.items) l)) (sym c.in-Edit.is)
    (edit_done c.edit.result c.args.frame.now c.edit.new.frame c.args.waiting.now.items c.in-Edit.what c.edit.ensures.line c.edit.ensures.after)

pub returns-in-Edit-clause-fits : goal.returns-in-Edit-clause-fits
returns-in-Edit-clause-fits c = keeps_in_run c.edit.result c.args.frame.now c.edit.new.frame c.args.waiting.now.items (entries.Edited c.in-Edit.what) c.edit.ensures.after c.edit.ensures.err c.edit.ensures.fits

pub returns-in-Touch-clause-done : goal.returns-in-Touch-clause-done
returns-in-Touch-clause-done c =
    subst (λ (o : FrameOp). IfOk c.touch.result (λ l. (left : List FrameOp) → IsDone (in_run c.args.frame.now left c.args.waiting.now.items) o left (in_run c.touch.new.frame left c.args.waiting.now.items) l)) (sym c.in-Touch.is)
    (touch_done c.touch.result c.args.frame.now c.touch.new.frame c.args.waiting.now.items c.in-Touch.node c.touch.ensures.line c.touch.ensures.after)

pub returns-in-Touch-clause-fits : goal.returns-in-Touch-clause-fits
returns-in-Touch-clause-fits c = keeps_in_run c.touch.result c.args.frame.now c.touch.new.frame c.args.waiting.now.items (entries.Marked c.in-Touch.node) c.touch.ensures.after c.touch.ensures.err c.touch.ensures.fits

pub returns-in-TouchBelow-clause-done : goal.returns-in-TouchBelow-clause-done
returns-in-TouchBelow-clause-done c =
    subst (λ (o : FrameOp). IfOk c.touch_below.result (λ l. (left : List FrameOp) → IsDone (in_run c.args.frame.now left c.args.waiting.now.items) o left (in_run c.touch_below.new.frame left c.args.waiting.now.items) l)) (sym c.in-TouchBelow.is)
    (touch_below_done c.touch_below.result c.args.frame.now c.touch_below.new.frame c.args.waiting.now.items c.in-TouchBelow.node c.touch_below.ensures.line c.touch_below.ensures.after)

pub returns-in-TouchBelow-clause-fits : goal.returns-in-TouchBelow-clause-fits
returns-in-TouchBelow-clause-fits c =
    keeps_in_run c.touch_below.result c.args.frame.now c.touch_below.new.frame c.args.waiting.now.items (entries.MarkedBelow c.in-TouchBelow.node) c.touch_below.ensures.after c.touch_below.ensures.err c.touch_below.ensures.fits
