use Rattle.std.proofs.Common.{◌∙◌, sym}
use Rattle.ax_mirror.proofs.Lists.{unlisted_in, unlisted_out}
use Rattle.ax_mirror.proofs.children.outside.Goals as goal

pub loop-id-preserved-then-contains : goal.loop-id-preserved-then-contains
loop-id-preserved-then-contains c =
    unlisted_in _ _ c.loop-id.out c.loop-id.id-index c.id-item.result (record { low = c.loop-id-test.true; item = c.id-item.is }) (sym c.contains.ensures ∙ c.if-contains.true) c.loop-id.invariant

pub loop-id-preserved : goal.loop-id-preserved
loop-id-preserved c =
    unlisted_out _ _ c.loop-id.out _ c.loop-id.id-index c.id-item.result (record { low = c.loop-id-test.true; item = c.id-item.is }) (sym c.contains.ensures ∙ c.if-contains.false) c.loop-id.invariant c.in_ok-push.ensures.ok
