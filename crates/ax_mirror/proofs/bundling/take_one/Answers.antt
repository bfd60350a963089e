use Rattle.std.proofs.Common.{refl}
use Rattle.ax_mirror.proofs.Reached.{grows, reach_done}
use Rattle.ax_mirror.proofs.Accounts.{touches_one}
use Rattle.ax_mirror.proofs.bundling.take_one.Goals as goal

pub returns-in-Ok-tell-clause-only : goal.returns-in-Ok-tell-clause-only
returns-in-Ok-tell-clause-only g c = touches_one c.args.update.now c.args.draft.now c.take_update.new.draft c.in-Ok.ensures.ok c.in-Ok.ensures.accounts

pub returns-in-Err-clause-reach : goal.returns-in-Err-clause-reach
returns-in-Err-clause-reach g c = c.in-Err.ensures.reach

pub returns-in-Err-tell-clause-reach : goal.returns-in-Err-tell-clause-reach
returns-in-Err-tell-clause-reach g c = reach_done _ _ c.take_update.new.draft _ _ _ refl (grows _ _ _ c.take_update.new.draft c.in-Ok.ensures.accounts) c.in-Ok.ensures.cost
