use Rattle.std.proofs.Common.{◌≡◌, ◌∙◌, sym, ap, ◌||◌, false}
use Rattle.std.specs.Prelude.{unwrap_or}
use Rattle.std.proofs.lemmas.Bool.{false_from_ne_true, false≢true}
use Rattle.ax_trees.specs.Trees.{has, is_root}
use Rattle.ax_trees.specs.Nodes.{parent_or}
use Rattle.ax_trees.proofs.Parents.{parent_or-parent}
use Rattle.ax_views.proofs.Climbing.{child_no_root, root_from_none}
use Rattle.ax_events.proofs.Nodes.{root_has_root, single_root}
use Rattle.ax_events.proofs.telling.tops_new_part.Goals as goal

pub returns-in-Some : goal.returns-in-Some
returns-in-Some g c =
    let f = (g.B.TreeView.tree c.args.new.now).trees in
    let no : is_root f c.args.id ≡ false = false_from_ne_true (is_root f c.args.id) (λ q.
    false≢true (sym (child_no_root f c.args.id c.in-Some.above c.root.ensures.well_formed.distinct (sym c.in-Some.ensures)) ∙ root_has_root f c.args.id q)) in
    c.has_node.ensures ∙ sym (ap (λ b. b || has (g.A.TreeView.tree c.args.old.now).trees (parent_or f c.args.id c.args.id)) no
    ∙ ap (has (g.A.TreeView.tree c.args.old.now).trees) (parent_or-parent f c.args.id c.args.id ∙ ap (λ o. unwrap_or o c.args.id) (sym c.in-Some.ensures)))

pub returns-in-None : goal.returns-in-None
returns-in-None g c =
    let f = (g.B.TreeView.tree c.args.new.now).trees in
    sym (ap (λ b. b || has (g.A.TreeView.tree c.args.old.now).trees (parent_or f c.args.id c.args.id))
    (single_root f c.args.id c.root.ensures.well_formed.one_root (root_from_none f c.args.id c.root.ensures.well_formed.distinct c.requires (sym c.in-None.ensures))))
