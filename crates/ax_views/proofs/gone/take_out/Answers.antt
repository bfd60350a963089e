use Rattle.ax_views.proofs.Taking.{one_more_out}
use Rattle.ax_views.proofs.gone.take_out.Goals as goal

pub loop-id-preserved : goal.loop-id-preserved
loop-id-preserved g c = λ z. one_more_out c.args.gone.now c.loop-id.id-index c.id-item.result z _ _ _ c.loop-id-test.true c.id-item.is (c.loop-id.invariant z) (c.remove.ensures.updates.0 z)
