use Rattle.ax_core.specs.Items.{Steps, IsCut}
use Rattle.ax_core.proofs.Hearing.{tells, breaks}
use Rattle.ax_core.proofs.Telling.{pushed, refused}
use Rattle.ax_core.proofs.run.Core.tell.Goals as goal

pub returns-in-Ok : goal.returns-in-Ok
returns-in-Ok g c =
    tells c.hear.result c.in-Ok.line c.hear.ensures
    (λ old new ok err. pushed (λ s e l. Steps s c.args.item.now e l) (λ s e. IsCut s c.args.item.now e) c.hear.result c.args.self.now c.step.new.self c.in-Ok.line old new c.in-Ok.ensures.done ok err)

pub returns-in-Err : goal.returns-in-Err
returns-in-Err g c = breaks (λ ls. refused c.args.item.now c.args.self.now c.step.new.self _ ls c.in-Err.ensures.refused)
