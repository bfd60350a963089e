use Rattle.std.proofs.Common.{ap}
use Rattle.std.specs.Str.{chars}
use Rattle.ax_unignored.proofs.gathered.Gathered.new.Goals as goal

pub returns : goal.returns
unfolding chars
returns c = ap chars c.new.ensures.bytes
