use Rattle.std.proofs.Common.{arith}
use Rattle.ax_unignored.proofs.Counts.{rest_none, rest_is}
use Rattle.ax_unignored.proofs.ids.past.Goals as goal

pub returns-then-count-ids : goal.returns-then-count-ids
returns-then-count-ids c = rest_none c.args.ids.now c.args.id c.count_ahead-count.result c.count_ahead-count.ensures.count c.if-count-ids.true

pub returns : goal.returns
returns c =
    let n = c.count_ahead-count.ensures.few in
    let l = c.if-count-ids.false in
    rest_is c.args.ids.now c.args.id c.count_ahead-count.result c.count_ahead-count.ensures.count (omega (arith, n, l))
