use Rattle.std.proofs.Common.{arith}
use Rattle.ax_combine.proofs.Rows.{rows_more, rows_end}
use Rattle.ax_combine.proofs.nodes.all_rows.Goals as goal

pub loop-at-preserved : goal.loop-at-preserved
loop-at-preserved g c = rows_more (g.G.Grove.forest c.args.g.now) c.loop-at.at c.loop-at.rows c.push.new.self c.in_ok-row.row c.loop-at.invariant c.in_ok-row.ensures c.in_ok-push.ensures.ok

pub returns : goal.returns
returns g c =
    rows_end (g.G.Grove.forest c.args.g.now) c.loop-at.at c.args.numbering.now c.loop-at.rows c.requires (omega (arith, c.loop-at-test.false, c.len-count.ensures.len)) c.loop-at.invariant
