use Rattle.std.proofs.Common.{refl, sym, ap, ◌∙◌}
use Rattle.ax_tree.specs.MarkRule.{add_mark}
use Rattle.ax_source.proofs.MarkLists.{less-begin, add_marks-more}
use Rattle.ax_source.proofs.marking.mark_all.Goals as goal

pub loop-id-init : goal.loop-id-init
loop-id-init c = record { marks = refl; back = less-begin _ c.args.marks.now c.new-added.ensures }

pub loop-id-preserved : goal.loop-id-preserved
loop-id-preserved c = record {
  marks = c.in-Ok.ensures.ok ∙ ap (λ m. add_mark m c.id-item.result) c.loop-id.invariant.marks ∙ sym (add_marks-more c.args.marks.now c.args.ids.now c.loop-id.id-index c.id-item.result c.loop-id-test.true c.id-item.is);
  back = c.in-Ok.ensures.back ∙ c.loop-id.invariant.back;
}
