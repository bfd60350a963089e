use Rattle.std.proofs.Common.{subst, Option}
use Rattle.ax_ask.specs.declared.line.Line.{Line}
use Rattle.ax_core.specs.Items.{Answers, Steps}
use Rattle.ax_core.proofs.Whole.{step_whole}
use Rattle.ax_core.proofs.run.Core.step.Goals as goal

pub returns-in-Some-clause-whole : goal.returns-in-Some-clause-whole
returns-in-Some-clause-whole c =
    let done : Steps c.args.self.now c.args.item.now c.answer.new.self c.in-Some.line =
    subst (λ (o : Option Line). Answers c.args.self.now c.args.item.now c.answer.new.self o) c.in-Some.is c.in_ok-line.ensures.done in
    λ w. step_whole c.args.self.now c.answer.new.self c.args.item.now c.in-Some.line w (done.whole w)
