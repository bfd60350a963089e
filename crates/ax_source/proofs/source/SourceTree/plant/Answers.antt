use Rattle.std.proofs.Common.{◌∷◌, [], List, ℕ, sym, ap, ◌∙◌}
use Rattle.ax_node.specs.Look.{look_of}
use Rattle.ax_trees.specs.Trees.{bare, tree}
use Rattle.ax_trees.specs.Changes.{with_below, planted}
use Rattle.ax_tree.specs.MarkRule.{add_marks}
use Rattle.ax_source.specs.Source.{Source}
use Rattle.ax_source.proofs.Allowed.{may_insert, first_none}
use Rattle.ax_source.proofs.Edited.{insert_source, insert_marks, within_there}
use Rattle.ax_source.proofs.Kept.{source_as, source_holds, edited_seen, same_source}
use Rattle.ax_source.proofs.source.SourceTree.plant.Goals as goal

pub plant-requires : goal.plant-requires
plant-requires c =
    let k = source_as c.self.inside.entries c.self.inside.root _ c.args.self.now c.self.view_is c.self.invariant in
    let a = may_insert c.args.parent c.args.index c.args.node.id (look_of c.args.node) c.args.self.now.tree.trees (first_none _ _ c.requires.allowed) in
    record { within = within_there c.self.inside.entries c.self.inside.root c.args.self.now.tree.trees c.args.parent c.args.index k.keeps a.within }

pub invariant_of-self-in-Ok-plant : goal.invariant_of-self-in-Ok-plant
invariant_of-self-in-Ok-plant c =
    let k = source_as c.self.inside.entries c.self.inside.root _ c.args.self.now c.self.view_is c.self.invariant in
    let a = may_insert c.args.parent c.args.index c.args.node.id (look_of c.args.node) c.args.self.now.tree.trees (first_none _ _ c.requires.allowed) in
    let marks = c.in-Ok.ensures.ok ∙ ap (λ (s : Source). add_marks s.marks (c.args.parent ∷ (c.args.node.id ∷ []))) c.self.view_is in
    source_holds c.plant.new.entries c.self.inside.root c.mark_two.new.marks _
    (insert_source c.self.inside.entries c.plant.new.entries c.self.inside.root c.args.self.now.marks c.mark_two.new.marks c.args.self.now.tree.trees c.args.parent c.args.index c.args.node k c.requires.leaf a c.in-Ok-plant.ensures.ok marks)

pub invariant_of-self-in-Err-plant : goal.invariant_of-self-in-Err-plant
invariant_of-self-in-Err-plant c =
    let k = source_as c.self.inside.entries c.self.inside.root _ c.args.self.now c.self.view_is c.self.invariant in
    source_holds c.plant.new.entries c.self.inside.root c.unmark_two.new.marks c.args.self.now.tree.trees
    (same_source c.self.inside.entries c.plant.new.entries c.self.inside.root c.args.self.now.marks c.unmark_two.new.marks c.args.self.now.tree.trees k c.in-Err-plant.ensures.err
    (c.unmark_two.ensures ∙ c.in-Ok.ensures.back ∙ ap (λ (s : Source). s.marks) c.self.view_is))

pub returns-in-Ok-plant-clause-ok : goal.returns-in-Ok-plant-clause-ok
returns-in-Ok-plant-clause-ok c =
    let k = source_as c.self.inside.entries c.self.inside.root _ c.args.self.now c.self.view_is c.self.invariant in
    let a = may_insert c.args.parent c.args.index c.args.node.id (look_of c.args.node) c.args.self.now.tree.trees (first_none _ _ c.requires.allowed) in
    let marks = c.in-Ok.ensures.ok ∙ ap (λ (s : Source). add_marks s.marks (c.args.parent ∷ (c.args.node.id ∷ []))) c.self.view_is in
    edited_seen c.plant.new.entries c.self.inside.root c.mark_two.new.marks _ (with_below (planted c.args.index (tree c.args.node.id (look_of c.args.node) bare bare)) c.args.self.now.tree.trees c.args.parent) _ _ _ _
    (insert_source c.self.inside.entries c.plant.new.entries c.self.inside.root c.args.self.now.marks c.mark_two.new.marks c.args.self.now.tree.trees c.args.parent c.args.index c.args.node k c.requires.leaf a c.in-Ok-plant.ensures.ok marks)
    (ap (λ (s : Source). s.tree.about) c.self.view_is)
    (marks ∙ ap (λ (l : List ℕ). add_marks l (c.args.parent ∷ (c.args.node.id ∷ []))) (sym (insert_marks c.self.inside.entries c.self.inside.root c.args.self.now.marks c.args.self.now.tree.trees c.args.parent c.args.index c.args.node.id (look_of c.args.node) k a)))
    (ap (λ (s : Source). s.changed) c.self.view_is)

pub returns-in-Err-plant-clause-unchanged : goal.returns-in-Err-plant-clause-unchanged
returns-in-Err-plant-clause-unchanged c =
    let k = source_as c.self.inside.entries c.self.inside.root _ c.args.self.now c.self.view_is c.self.invariant in
    let marks = c.unmark_two.ensures ∙ c.in-Ok.ensures.back ∙ ap (λ (s : Source). s.marks) c.self.view_is in
    edited_seen c.plant.new.entries c.self.inside.root c.unmark_two.new.marks _ c.args.self.now.tree.trees _ _ _ _
    (same_source c.self.inside.entries c.plant.new.entries c.self.inside.root c.args.self.now.marks c.unmark_two.new.marks c.args.self.now.tree.trees k c.in-Err-plant.ensures.err marks)
    (ap (λ (s : Source). s.tree.about) c.self.view_is) marks (ap (λ (s : Source). s.changed) c.self.view_is)
