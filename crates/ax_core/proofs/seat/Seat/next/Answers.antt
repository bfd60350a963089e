use Rattle.std.proofs.Common.{subst}
use Rattle.ax_run_rules.specs.States.{FrameRun}
use Rattle.ax_core.specs.FrameRuns.{in_run, KeepsFitting}
use Rattle.ax_core.proofs.seat.Seat.next.Goals as goal

pub returns-in_err-line-clause-fits : goal.returns-in_err-line-clause-fits
returns-in_err-line-clause-fits c =
    subst (λ (f : FrameRun). KeepsFitting f (in_run c.operate.new.frame c.self.inside.left c.operate.new.waiting.items)) c.self.view_is (c.operate.ensures.fits c.self.inside.left)

pub returns-clause-fits : goal.returns-clause-fits
returns-clause-fits c =
    subst (λ (f : FrameRun). KeepsFitting f (in_run c.operate.new.frame c.drop_first.new.self c.operate.new.waiting.items)) c.self.view_is (c.operate.ensures.fits c.self.inside.left)
