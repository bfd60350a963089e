use Rattle.ax_forest.proofs.Receipts.{taken}
use Rattle.ax_forest.proofs.Results.{on_all}
use Rattle.ax_forest.proofs.taking.receive_in.Goals as goal

pub returns-in-Ok-clause-taken : goal.returns-in-Ok-clause-taken
returns-in-Ok-clause-taken g c = on_all c.take.result (λ ts i. taken ts c.args.history.now c.args.packet c.in-Ok.fate (c.in-Ok.ensures.ok ts c.args.history.now i))
