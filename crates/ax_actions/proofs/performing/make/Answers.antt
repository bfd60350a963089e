use Rattle.ax_actions.specs.Performing.{source_now}
use Rattle.ax_actions.proofs.PerformingLemmas.{stays}
use Rattle.ax_actions.proofs.performing.make.Goals as goal

pub returns-in-Err-clause-memory : goal.returns-in-Err-clause-memory
returns-in-Err-clause-memory c = stays c.args.edit.now (source_now c.args.frame.now) c.edit.new.self c.args.frame.now _ c.requires.allowed c.in-Err.ensures.refused c.in-Err.ensures.after
