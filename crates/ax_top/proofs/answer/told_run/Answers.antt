use Rattle.std.proofs.Common.{subst}
use Rattle.ax_top.specs.Running.{RanAs}
use Rattle.ax_top.proofs.Endings.{told_whole}
use Rattle.ax_top.proofs.answer.told_run.Goals as goal

pub returns-in_ok-text-in-Whole-clause-text : goal.returns-in_ok-text-in-Whole-clause-text
returns-in_ok-text-in-Whole-clause-text c =
    let ran = subst (RanAs c.args.script) c.in-Whole.is c.in_ok-core.ensures in
    told_whole c.args.ending c.args.script _ c.in-Whole.core c.in-Whole.text.items c.in_ok-text-in-Whole.text.items ran.0 ran.1 c.in_ok-text-in-Whole.ensures
