use Rattle.ax_top.proofs.Counting.{other_counts}
use Rattle.ax_top.proofs.making.with_line.Goals as goal

pub returns-in_default : goal.returns-in_default
returns-in_default c = other_counts c.args.counts c.args.line.now c.in_default.not-Passed c.in_default.not-Received
