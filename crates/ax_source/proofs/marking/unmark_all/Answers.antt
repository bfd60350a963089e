use Rattle.std.proofs.Common.{refl, sym, ap, ◌∙◌}
use Rattle.ax_marks.specs.MarkList.{without}
use Rattle.ax_source.proofs.MarkLists.{less-begin, less-step}
use Rattle.ax_source.proofs.marking.unmark_all.Goals as goal

pub loop-id-init : goal.loop-id-init
loop-id-init c = sym (less-begin _ c.args.marks.now refl)

pub loop-id-preserved : goal.loop-id-preserved
loop-id-preserved c =
    c.remove.ensures.rest ∙ ap (λ m. without m c.id-item.result) c.loop-id.invariant
    ∙ less-step c.args.ids.now c.loop-id.id-index c.id-item.result c.args.marks.now c.loop-id-test.true c.id-item.is
