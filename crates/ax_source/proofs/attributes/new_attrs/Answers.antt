use Rattle.std.proofs.Common.{Option, sym, ap, ◌∙◌}
use Rattle.std.specs.Ordering.{nat_cmp}
use Rattle.std.specs.FinMap.Entries.{put}
use Rattle.ax_node.specs.declared.value.Value.{Value}
use Rattle.ax_tree.specs.Edits.{attr_set}
use Rattle.ax_source.proofs.Ready.{attrs_more}
use Rattle.ax_source.proofs.attributes.new_attrs.Goals.{in-Some+in_ok-copy-in-Some+in-Ok, in-None}
use Rattle.ax_source.proofs.attributes.new_attrs.Goals as goal

pub loop-change-preserved : goal.loop-change-preserved
loop-change-preserved c =
    let more = attrs_more c.args.changes.now c.loop-change.change-index c.change-item.result c.args.attrs.now c.loop-change-test.true c.change-item.is in
    elim c.match-change.branch [
      | in-Some+in_ok-copy-in-Some+in-Ok w ↦
          w.new-is ∙ (w.in-Ok.ensures.ok ∙ ap (λ (v : Value). put nat_cmp c.change-item.result.key v c.loop-change.new) w.in_ok-copy-in-Some.ensures)
          ∙ sym (ap (λ (v : Option Value). attr_set c.change-item.result.key v c.loop-change.new) w.in-Some.is)
          ∙ ap (attr_set c.change-item.result.key c.change-item.result.value) c.loop-change.invariant
          ∙ sym more
      | in-None w ↦
          w.new-is ∙ w.unset.ensures.rest
          ∙ sym (ap (λ (v : Option Value). attr_set c.change-item.result.key v c.loop-change.new) w.in-None.is)
          ∙ ap (attr_set c.change-item.result.key c.change-item.result.value) c.loop-change.invariant
          ∙ sym more
    ]
