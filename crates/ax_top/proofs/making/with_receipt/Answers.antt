use Rattle.ax_top.proofs.Counting.{applied_counts, refused_counts}
use Rattle.ax_top.proofs.making.with_receipt.Goals as goal

pub returns-in_ok-sum_of-in-Applied-2 : goal.returns-in_ok-sum_of-in-Applied-2
returns-in_ok-sum_of-in-Applied-2 c =
    applied_counts c.args.counts c.args.verdict.now c.in-Applied.pass c.in-Applied.events c.in_ok-sum_of-in-Applied.field-0 c.len.result c.in_ok-sum_of-in-Applied-2.field-0 c.in-Applied.is c.in_ok-sum_of-in-Applied.ensures
    c.len.ensures c.in_ok-sum_of-in-Applied-2.ensures

pub returns-in_default : goal.returns-in_default
returns-in_default c = refused_counts c.args.counts c.args.verdict.now c.in_default.not-Applied
