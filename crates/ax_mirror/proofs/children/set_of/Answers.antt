use Rattle.std.proofs.Common.{◌∙◌, ap, sym, cond, eqb, true}
use Rattle.ax_mirror.proofs.children.set_of.Goals as goal
use Rattle.ax_trees.proofs.Lists.{contains_next}

pub loop-id-preserved : goal.loop-id-preserved
loop-id-preserved c z =
    c.in-Ok.ensures.updates.0 z ∙ ap (cond (eqb c.id-item.result z) true) (c.loop-id.invariant z)
    ∙ sym (contains_next _ c.loop-id.id-index c.id-item.result z (record { low = c.loop-id-test.true; item = c.id-item.is }))
