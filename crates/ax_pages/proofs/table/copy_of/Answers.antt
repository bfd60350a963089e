use Rattle.ax_pages.proofs.TableLemmas.{clone_at, clone_used}
use Rattle.ax_pages.proofs.table.copy_of.Goals as goal

pub returns-in-Ok-clause-same : goal.returns-in-Ok-clause-same
returns-in-Ok-clause-same g c = clone_at c.args.blocks.now c.in-Ok.copy _ (λ x y e. e) c.in-Ok.ensures.cases

pub returns-in-Ok-clause-used : goal.returns-in-Ok-clause-used
returns-in-Ok-clause-used g c = clone_used c.args.blocks.now c.in-Ok.copy _ (λ x y e. e) c.in-Ok.ensures.cases c.requires
