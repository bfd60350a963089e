use Rattle.std.proofs.Common.{◌-◌}
use Rattle.ax_unignored.proofs.backward.+last_ahead.Given as goal

abbrev pub decreases-last_ahead : goal.decreases-last_ahead
decreases-last_ahead g l = 8 - l.levels
