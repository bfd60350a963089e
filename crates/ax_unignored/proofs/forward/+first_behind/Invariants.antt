use Rattle.std.proofs.Common.{◌-◌}
use Rattle.ax_unignored.proofs.forward.+first_behind.Given as goal

abbrev pub decreases-first_behind : goal.decreases-first_behind
decreases-first_behind g l = 8 - l.levels
