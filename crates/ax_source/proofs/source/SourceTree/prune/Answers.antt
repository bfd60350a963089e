use Rattle.std.proofs.Common.{sym, ap, ◌∙◌}
use Rattle.std.proofs.lemmas.Bool.{false≢true}
use Rattle.ax_trees.specs.Changes.{pruned}
use Rattle.ax_trees.proofs.Trees.{not_root}
use Rattle.ax_tree.specs.MarkRule.{add_mark}
use Rattle.ax_views.proofs.Climbing.{root_from_none}
use Rattle.ax_source.specs.Source.{Source}
use Rattle.ax_source.specs.Marking.{less}
use Rattle.ax_source.specs.Changes.{child_dropped}
use Rattle.ax_source.proofs.Allowed.{may_remove, first_none}
use Rattle.ax_source.proofs.Linked.{at_one}
use Rattle.ax_source.proofs.MarkLists.{added-mark}
use Rattle.ax_source.proofs.Edited.{remove_source, remove_marks}
use Rattle.ax_source.proofs.Kept.{source_as, source_holds, edited_seen}
use Rattle.ax_source.proofs.source.SourceTree.prune.Goals as goal

pub unreachable-requires : goal.unreachable-requires
unreachable-requires c =
    let k = source_as c.self.inside.entries c.self.inside.root _ c.args.self.now c.self.view_is c.self.invariant in
    let a = may_remove c.args.id c.args.self.now.tree.trees (first_none _ _ c.requires.allowed) in
    false≢true (sym (not_root c.args.self.now.tree.trees c.args.id k.keeps.is_tree.one_root a.1) ∙ root_from_none c.args.self.now.tree.trees c.args.id k.keeps.is_tree.distinct a.0 (sym c.in-None.ensures))

pub invariant_of-self-2 : goal.invariant_of-self-2
invariant_of-self-2 c =
    let k = source_as c.self.inside.entries c.self.inside.root _ c.args.self.now c.self.view_is c.self.invariant in
    let f = c.args.self.now.tree.trees in
    let a = may_remove c.args.id f (first_none _ _ c.requires.allowed) in
    let marks = c.unmark_all.ensures ∙ ap (less c.args.gone.now) (c.in-Ok.ensures.ok ∙ added-mark c.self.inside.marks c.in-Some.parent ∙ ap (λ (s : Source). add_mark s.marks c.in-Some.parent) c.self.view_is) in
    let is = remove_source c.self.inside.entries c.drop_child.new.entries c.take_out.new.entries c.self.inside.root c.args.self.now.marks c.unmark_all.new.marks f c.in-Some.parent c.args.id c.args.gone.now
    k a.0 a.1 (sym c.in-Some.ensures) c.requires.gone
    (at_one _ _ c.in-Some.parent (child_dropped c.args.id) c.drop_child.ensures.here c.drop_child.ensures.others) c.take_out.ensures marks in
    source_holds c.take_out.new.entries c.self.inside.root c.unmark_all.new.marks (pruned c.args.self.now.tree.trees c.args.id) is

pub returns-clause-ok : goal.returns-clause-ok
returns-clause-ok c =
    let k = source_as c.self.inside.entries c.self.inside.root _ c.args.self.now c.self.view_is c.self.invariant in
    let f = c.args.self.now.tree.trees in
    let a = may_remove c.args.id f (first_none _ _ c.requires.allowed) in
    let marks = c.unmark_all.ensures ∙ ap (less c.args.gone.now) (c.in-Ok.ensures.ok ∙ added-mark c.self.inside.marks c.in-Some.parent ∙ ap (λ (s : Source). add_mark s.marks c.in-Some.parent) c.self.view_is) in
    let is = remove_source c.self.inside.entries c.drop_child.new.entries c.take_out.new.entries c.self.inside.root c.args.self.now.marks c.unmark_all.new.marks f c.in-Some.parent c.args.id c.args.gone.now
    k a.0 a.1 (sym c.in-Some.ensures) c.requires.gone
    (at_one _ _ c.in-Some.parent (child_dropped c.args.id) c.drop_child.ensures.here c.drop_child.ensures.others) c.take_out.ensures marks in
    edited_seen c.take_out.new.entries c.self.inside.root c.unmark_all.new.marks _ (pruned c.args.self.now.tree.trees c.args.id) _ _ _ _ is
    (ap (λ (s : Source). s.tree.about) c.self.view_is)
    (marks ∙ remove_marks c.args.self.now.tree.trees c.args.self.now.marks c.in-Some.parent c.args.id c.args.gone.now k.keeps.is_tree.distinct k.marked a.0 (sym c.in-Some.ensures) c.requires.gone)
    (ap (λ (s : Source). s.changed) c.self.view_is)
