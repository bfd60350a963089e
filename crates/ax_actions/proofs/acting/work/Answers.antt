use Rattle.std.proofs.Common.{ap}
use Rattle.ax_actions.specs.declared.acting.Acted.{Acted}
use Rattle.ax_actions.proofs.ActingLemmas.{job_comes}
use Rattle.ax_actions.proofs.acting.work.Goals as goal

pub returns : goal.returns
returns g c =
    let j = c.args.job.frame in
    job_comes c.args.job (record { frame = j; lines = c.new.result }) c.serve.new.by.taken c.serve.new.acted (ap (λ l. record { frame = j; lines = l }) c.new.ensures) c.in_ok-serve.ensures.served c.close.ensures
