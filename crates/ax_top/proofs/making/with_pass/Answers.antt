use Rattle.ax_top.proofs.Counting.{made_counts, nothing_counts}
use Rattle.ax_top.proofs.making.with_pass.Goals as goal

pub returns-in_ok-with_listed-in-Made : goal.returns-in_ok-with_listed-in-Made
returns-in_ok-with_listed-in-Made c =
    made_counts c.args.counts c.args.note.now c.in-Made.made c.as_slice.result.now c.in_ok-sum_of-in-Made.field-0 c.in_ok-with_listed-in-Made.field-0 c.in-Made.is c.as_slice.ensures c.in_ok-sum_of-in-Made.ensures
    c.in_ok-with_listed-in-Made.ensures

pub returns-in-Nothing : goal.returns-in-Nothing
returns-in-Nothing c = nothing_counts c.args.counts c.args.note.now c.in-Nothing.is
