use Rattle.ax_forest.proofs.Results.{on_all, if_err}
use Rattle.ax_forest.proofs.Sources.{is_of_source, no_refusal}
use Rattle.ax_forest.proofs.forest.Forest.receive.Goals as goal

pub returns-clause-source : goal.returns-clause-source
returns-clause-source c = on_all c.receive_counted.result (λ good. is_of_source c.args.self.now.history c.args.packet good)

pub returns-clause-good : goal.returns-clause-good
returns-clause-good c = if_err c.receive_counted.result (λ e w good. no_refusal c.args.self.now.trees c.args.self.now.history c.args.packet e.why w good) c.receive_counted.ensures.why
