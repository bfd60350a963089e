use Rattle.std.proofs.Common.{subst}
use Rattle.ax_run_rules.specs.States.{FrameRun}
use Rattle.ax_core.specs.FrameRuns.{in_run, KeepsFitting}
use Rattle.ax_core.proofs.seat.Seat.pass.Goals as goal

pub returns-clause-fits : goal.returns-clause-fits
returns-clause-fits c =
    subst (λ (f : FrameRun). KeepsFitting f (in_run c.pass.new.frame c.self.inside.left c.pass.new.waiting.items)) c.self.view_is (c.pass.ensures.fits c.self.inside.left)
