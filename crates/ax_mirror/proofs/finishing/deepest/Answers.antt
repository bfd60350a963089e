use Rattle.ax_mirror.proofs.Finishes.{deepest_start, deepest_next, deepest_end}
use Rattle.ax_mirror.proofs.finishing.deepest.Goals as goal

pub loop-id-init : goal.loop-id-init
loop-id-init c = deepest_start c.args.nodes.now c.args.ids.now

pub loop-id-preserved : goal.loop-id-preserved
loop-id-preserved c = deepest_next _ _ c.loop-id.id-index c.id-item.result _ _ _ (record { low = c.loop-id-test.true; item = c.id-item.is }) c.level_of.ensures c.max-depth.ensures c.loop-id.invariant

pub returns : goal.returns
returns c = deepest_end _ _ c.loop-id.id-index _ c.loop-id-test.false c.loop-id.invariant
