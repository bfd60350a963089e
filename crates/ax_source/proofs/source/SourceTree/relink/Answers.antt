use Rattle.std.proofs.Common.{◌∷◌, [], sym, ap, ◌∙◌}
use Rattle.std.proofs.lemmas.Bool.{false≢true}
use Rattle.ax_trees.specs.Changes.{with_below, planted, pruned}
use Rattle.ax_trees.specs.Nodes.{tree_at}
use Rattle.ax_trees.proofs.Trees.{not_root}
use Rattle.ax_tree.specs.MarkRule.{add_marks}
use Rattle.ax_views.proofs.Climbing.{root_from_none}
use Rattle.ax_source.specs.Source.{Source}
use Rattle.ax_source.proofs.Allowed.{may_move, first_none}
use Rattle.ax_source.proofs.Edited.{move_source, move_marks, listed_there, place_there}
use Rattle.ax_source.proofs.Kept.{source_as, source_holds, edited_seen, same_source}
use Rattle.ax_source.proofs.source.SourceTree.relink.Goals as goal

pub unreachable-requires : goal.unreachable-requires
unreachable-requires c =
    let k = source_as c.self.inside.entries c.self.inside.root _ c.args.self.now c.self.view_is c.self.invariant in
    let a = may_move c.args.node c.args.parent c.args.index c.args.self.now.tree.trees (first_none _ _ c.requires) in
    false≢true (sym (not_root c.args.self.now.tree.trees c.args.node k.keeps.is_tree.one_root a.no_root) ∙ root_from_none c.args.self.now.tree.trees c.args.node k.keeps.is_tree.distinct a.there (sym c.in-None.ensures))

pub relink-requires-clause-there : goal.relink-requires-clause-there
relink-requires-clause-there c =
    let k = source_as c.self.inside.entries c.self.inside.root _ c.args.self.now c.self.view_is c.self.invariant in
    listed_there c.self.inside.entries c.self.inside.root c.args.self.now.tree.trees c.in-Some.old c.args.node k.keeps (sym c.in-Some.ensures) k.keeps.is_tree.distinct

pub relink-requires-clause-within : goal.relink-requires-clause-within
relink-requires-clause-within c =
    let k = source_as c.self.inside.entries c.self.inside.root _ c.args.self.now c.self.view_is c.self.invariant in
    let a = may_move c.args.node c.args.parent c.args.index c.args.self.now.tree.trees (first_none _ _ c.requires) in
    place_there c.self.inside.entries c.self.inside.root c.args.self.now.tree.trees c.args.parent c.args.index c.args.node k.keeps a.within

pub invariant_of-self-in-Ok-relink : goal.invariant_of-self-in-Ok-relink
invariant_of-self-in-Ok-relink c =
    let k = source_as c.self.inside.entries c.self.inside.root _ c.args.self.now c.self.view_is c.self.invariant in
    let a = may_move c.args.node c.args.parent c.args.index c.args.self.now.tree.trees (first_none _ _ c.requires) in
    let marks = c.in-Ok.ensures.ok ∙ ap (λ (s : Source). add_marks s.marks (c.in-Some.old ∷ (c.args.parent ∷ []))) c.self.view_is in
    source_holds c.relink.new.entries c.self.inside.root c.mark_two.new.marks _
    (move_source c.self.inside.entries c.relink.new.entries c.self.inside.root c.args.self.now.marks c.mark_two.new.marks c.args.self.now.tree.trees c.in-Some.old c.args.parent c.args.index c.args.node k a (sym c.in-Some.ensures) c.in-Ok-relink.ensures.ok marks)

pub invariant_of-self-in-Err-relink : goal.invariant_of-self-in-Err-relink
invariant_of-self-in-Err-relink c =
    let k = source_as c.self.inside.entries c.self.inside.root _ c.args.self.now c.self.view_is c.self.invariant in
    source_holds c.relink.new.entries c.self.inside.root c.unmark_two.new.marks c.args.self.now.tree.trees
    (same_source c.self.inside.entries c.relink.new.entries c.self.inside.root c.args.self.now.marks c.unmark_two.new.marks c.args.self.now.tree.trees k c.in-Err-relink.ensures.err
    (c.unmark_two.ensures ∙ c.in-Ok.ensures.back ∙ ap (λ (s : Source). s.marks) c.self.view_is))

pub returns-in-Ok-relink-clause-ok : goal.returns-in-Ok-relink-clause-ok
returns-in-Ok-relink-clause-ok c =
    let k = source_as c.self.inside.entries c.self.inside.root _ c.args.self.now c.self.view_is c.self.invariant in
    let a = may_move c.args.node c.args.parent c.args.index c.args.self.now.tree.trees (first_none _ _ c.requires) in
    let marks = c.in-Ok.ensures.ok ∙ ap (λ (s : Source). add_marks s.marks (c.in-Some.old ∷ (c.args.parent ∷ []))) c.self.view_is in
    edited_seen c.relink.new.entries c.self.inside.root c.mark_two.new.marks _ (with_below (planted c.args.index (tree_at c.args.self.now.tree.trees c.args.node)) (pruned c.args.self.now.tree.trees c.args.node) c.args.parent) _ _ _ _
    (move_source c.self.inside.entries c.relink.new.entries c.self.inside.root c.args.self.now.marks c.mark_two.new.marks c.args.self.now.tree.trees c.in-Some.old c.args.parent c.args.index c.args.node k a (sym c.in-Some.ensures) c.in-Ok-relink.ensures.ok marks)
    (ap (λ (s : Source). s.tree.about) c.self.view_is)
    (marks ∙ move_marks c.self.inside.entries c.self.inside.root c.args.self.now.marks c.args.self.now.tree.trees c.in-Some.old c.args.parent c.args.index c.args.node k a (sym c.in-Some.ensures))
    (ap (λ (s : Source). s.changed) c.self.view_is)

pub returns-in-Err-relink-clause-unchanged : goal.returns-in-Err-relink-clause-unchanged
returns-in-Err-relink-clause-unchanged c =
    let k = source_as c.self.inside.entries c.self.inside.root _ c.args.self.now c.self.view_is c.self.invariant in
    let marks = c.unmark_two.ensures ∙ c.in-Ok.ensures.back ∙ ap (λ (s : Source). s.marks) c.self.view_is in
    edited_seen c.relink.new.entries c.self.inside.root c.unmark_two.new.marks _ c.args.self.now.tree.trees _ _ _ _
    (same_source c.self.inside.entries c.relink.new.entries c.self.inside.root c.args.self.now.marks c.unmark_two.new.marks c.args.self.now.tree.trees k c.in-Err-relink.ensures.err marks)
    (ap (λ (s : Source). s.tree.about) c.self.view_is) marks (ap (λ (s : Source). s.changed) c.self.view_is)
