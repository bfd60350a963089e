use Rattle.std.proofs.Common.{length}
use Rattle.ax_stitch.specs.Levels.{line}
use Rattle.ax_unignored.proofs.Above.{Upwards}
use Rattle.ax_unignored.proofs.upward.parent.Given as goal

abbrev pub invariant-loop-above : goal.invariant-loop-above
invariant-loop-above g l = Upwards (g.G.Grove.forest l.g) l.fn.p l.at

abbrev pub decreases-loop-above : goal.decreases-loop-above
decreases-loop-above g l = length (line 8 (g.G.Grove.forest l.g) l.at)
