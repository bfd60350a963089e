use Rattle.std.proofs.Common.{arith}
use Rattle.ax_moves.proofs.BelowLemmas.{start_some, start_none}
use Rattle.ax_moves.proofs.below.start_below.Goals as goal

pub returns-then-start-offset : goal.returns-then-start-offset
returns-then-start-offset c = start_some c.args.start c.args.offset (omega arith) (omega arith)

pub returns-else-start-offset : goal.returns-else-start-offset
returns-else-start-offset c = start_none c.args.start c.args.offset (omega arith) (omega arith)
