use Rattle.ax_mirror.proofs.Finishes.{least_start, least_step, least_end}
use Rattle.ax_mirror.proofs.finishing.least_pending.Goals as goal

pub loop-id-init : goal.loop-id-init
loop-id-init c = least_start c.args.nodes.now c.args.ids.now

pub loop-id-preserved : goal.loop-id-preserved
loop-id-preserved c = least_step _ _ c.loop-id.id-index c.id-item.result _ _ (record { low = c.loop-id-test.true; item = c.id-item.is }) c.lesser-so_far.ensures c.loop-id.invariant

pub returns : goal.returns
returns c = least_end _ _ c.loop-id.id-index _ c.loop-id-test.false c.loop-id.invariant
