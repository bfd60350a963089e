use Rattle.std.proofs.Common.{◌≡◌, map, flat_map}
use Rattle.ax_run_rules.specs.States.{FrameRun}
use Rattle.ax_core.specs.FrameRuns.{journaled}
use Rattle.ax_core.proofs.run.Core.close.Given as goal

abbrev pub invariant-loop-seat : goal.invariant-loop-seat
invariant-loop-seat l = record {
  frames : l.frames.items ≡ map journaled l.yielded;
  waiting : l.waiting.items ≡ flat_map (λ (f : FrameRun). f.waiting) l.yielded;
}
