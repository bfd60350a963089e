use Rattle.std.proofs.Common.{sym}
use Rattle.ax_top.proofs.Counting.{no_counts}
use Rattle.ax_top.proofs.making.no_counts.Goals as goal

pub returns : goal.returns
returns c = sym no_counts
