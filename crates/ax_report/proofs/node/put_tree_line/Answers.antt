use Rattle.std.proofs.Common.{◌++◌, ap, ◌∙◌}
use Rattle.ax_report.proofs.WalkLemmas.{tree_line_done}
use Rattle.ax_report.proofs.node.put_tree_line.Goals as goal

pub returns-clause-ok : goal.returns-clause-ok
returns-clause-ok c =
    tree_line_done c.args.about.now c.args.out.now.items c.put.new.out.items c.put-2.new.out.items c.put-3.new.out.items c.put_quoted.new.out.items c.put-4.new.out.items
    c.put_quoted-2.new.out.items c.put-5.new.out.items
    (c.in_ok-put.ensures.ok ∙ ap (λ xs. c.args.out.now.items ++ xs) (c.deref.ensures ∙ c.in_ok-trees_part.ensures))
    (c.in_ok-put-2.ensures.ok ∙ ap (λ xs. c.put.new.out.items ++ xs) (c.deref-2.ensures ∙ c.in_ok-focus_part.ensures))
    (c.in_ok-put-3.ensures.ok ∙ ap (λ xs. c.put-2.new.out.items ++ xs) (c.deref-3.ensures ∙ c.in_ok-ends_part.ensures))
    c.in_ok-put_quoted.ensures.ok c.in_ok-put-4.ensures.ok c.in_ok-put_quoted-2.ensures.ok c.in_ok-put-5.ensures.ok
