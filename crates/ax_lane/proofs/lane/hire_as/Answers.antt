use Rattle.std.proofs.Common.{subst, ℕ}
use Rattle.ax_lane.specs.Packets.{Includes}
use Rattle.ax_lane.proofs.Moves.{hires}
use Rattle.ax_lane.proofs.lane.hire_as.Goals as goal

pub another-requires-clause-rule : goal.another-requires-clause-rule
another-requires-clause-rule g c = hires _ _ _ c.requires.taker.0 c.requires.taker.1 (subst (λ (t : ℕ). ¬ (Includes c.args.pass.now.me.view.client.trees t)) c.requires.tree c.requires.new)
