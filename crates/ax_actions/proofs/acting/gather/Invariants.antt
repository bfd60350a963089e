use Rattle.ax_actions.specs.Acting.{AreGathered}
use Rattle.ax_actions.proofs.acting.gather.Given as goal

abbrev pub invariant-loop-slot : goal.invariant-loop-slot
invariant-loop-slot l = AreGathered l.yielded l.frames.items l.lines
