use Rattle.std.proofs.Common.{ap, ◌∙◌}
use Rattle.ax_tree.specs.MarkRule.{add_mark}
use Rattle.ax_source.specs.Marking.{taken_back}
use Rattle.ax_source.proofs.MarkLists.{added-mark, back_from}
use Rattle.ax_source.proofs.marking.mark_two.Goals as goal

pub returns-in-Ok-clause-ok : goal.returns-in-Ok-clause-ok
returns-in-Ok-clause-ok c =
    c.in-Ok.ensures.ok ∙ added-mark c.add.new.self c.args.second
    ∙ ap (λ m. add_mark m c.args.second) (c.in_ok-first_is_new.ensures.ok ∙ added-mark c.args.marks.now c.args.first)

pub returns-in-Ok-clause-back : goal.returns-in-Ok-clause-back
returns-in-Ok-clause-back c =
    ap (taken_back c.in_ok-first_is_new.first_is_new c.args.first) (back_from c.add.new.self c.args.second _ _ c.in-Ok.ensures.answer c.in-Ok.ensures.ok)
    ∙ back_from c.args.marks.now c.args.first _ _ c.in_ok-first_is_new.ensures.answer c.in_ok-first_is_new.ensures.ok

pub returns-in-Err-clause-err : goal.returns-in-Err-clause-err
returns-in-Err-clause-err c =
    c.take_back.ensures ∙ ap (taken_back c.in_ok-first_is_new.first_is_new c.args.first) c.in-Err.ensures.err
    ∙ back_from c.args.marks.now c.args.first _ _ c.in_ok-first_is_new.ensures.answer c.in_ok-first_is_new.ensures.ok
