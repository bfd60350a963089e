use Rattle.std.proofs.Common.{◌∙◌, ◌++◌, sym, ap, nat_eq, reverse}
use Rattle.std.specs.Prelude.{filter}
use Rattle.std.specs.HashMap.{get}
use Rattle.std.proofs.lemmas.List.{append-nil}
use Rattle.ax_order.specs.Marks.{is_marked}
use Rattle.ax_views.proofs.Walking.{no_children, children_from}
use Rattle.ax_order.proofs.order.push_marked.Goals as goal

pub returns-in_default : goal.returns-in_default
returns-in_default g c = sym (append-nil _) ∙ ap (λ zs. c.args.stack.now ++ reverse (filter (is_marked (get nat_eq c.args.marks.now)) zs)) (sym (no_children _ c.args.id c.in_default.ensures))

pub returns : goal.returns
returns g c =
    c.in_ok-push_reversed.ensures.ok
    ∙ ap (λ zs. c.args.stack.now ++ reverse zs) (c.in_ok-marked.ensures ∙ ap (filter (is_marked (get nat_eq c.args.marks.now))) (c.as_slice.ensures ∙ children_from _ c.args.id _ c.in-Some.ensures))
