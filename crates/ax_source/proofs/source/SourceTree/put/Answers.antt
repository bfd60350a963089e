use Rattle.std.proofs.Common.{List, ℕ, sym, ap, ◌∙◌}
use Rattle.ax_trees.specs.Changes.{with_known}
use Rattle.ax_tree.specs.MarkRule.{add_mark}
use Rattle.ax_tree.specs.Edits.{look_set}
use Rattle.ax_source.specs.Source.{Source}
use Rattle.ax_source.specs.Parts.{parts_put}
use Rattle.ax_source.proofs.Linked.{at_one}
use Rattle.ax_source.proofs.MarkLists.{added-mark}
use Rattle.ax_source.proofs.Edited.{change_source, change_marks}
use Rattle.ax_source.proofs.Ready.{ready_spot}
use Rattle.ax_source.proofs.Kept.{source_as, source_holds, edited_seen}
use Rattle.ax_source.proofs.source.SourceTree.put.Goals as goal

pub invariant_of-self-2 : goal.invariant_of-self-2
invariant_of-self-2 c =
    let k = source_as c.self.inside.entries c.self.inside.root _ c.args.self.now c.self.view_is c.self.invariant in
    let marks = c.in-Ok.ensures.ok ∙ added-mark c.self.inside.marks c.args.set.now.node ∙ ap (λ (s : Source). add_mark s.marks c.args.set.now.node) c.self.view_is in
    let is = change_source c.self.inside.entries c.put_in.new.entries c.self.inside.root c.args.self.now.marks c.add.new.self c.args.self.now.tree.trees (look_set c.args.set.now) (parts_put c.args.set.now c.args.parts) c.args.set.now.node
    k c.requires.there (ready_spot c.args.self.now.tree.trees c.args.set.now c.args.parts c.requires.ready)
    (at_one _ _ c.args.set.now.node (parts_put c.args.set.now c.args.parts) c.put_in.ensures.here c.put_in.ensures.others) marks in
    source_holds c.put_in.new.entries c.self.inside.root c.add.new.self (with_known (look_set c.args.set.now) c.args.self.now.tree.trees c.args.set.now.node) is

pub returns-clause-ok : goal.returns-clause-ok
returns-clause-ok c =
    let k = source_as c.self.inside.entries c.self.inside.root _ c.args.self.now c.self.view_is c.self.invariant in
    let marks = c.in-Ok.ensures.ok ∙ added-mark c.self.inside.marks c.args.set.now.node ∙ ap (λ (s : Source). add_mark s.marks c.args.set.now.node) c.self.view_is in
    let is = change_source c.self.inside.entries c.put_in.new.entries c.self.inside.root c.args.self.now.marks c.add.new.self c.args.self.now.tree.trees (look_set c.args.set.now) (parts_put c.args.set.now c.args.parts) c.args.set.now.node
    k c.requires.there (ready_spot c.args.self.now.tree.trees c.args.set.now c.args.parts c.requires.ready)
    (at_one _ _ c.args.set.now.node (parts_put c.args.set.now c.args.parts) c.put_in.ensures.here c.put_in.ensures.others) marks in
    edited_seen c.put_in.new.entries c.self.inside.root c.add.new.self _ (with_known (look_set c.args.set.now) c.args.self.now.tree.trees c.args.set.now.node) _ _ _ _ is
    (ap (λ (s : Source). s.tree.about) c.self.view_is)
    (marks ∙ ap (λ (l : List ℕ). add_mark l c.args.set.now.node) (sym (change_marks c.self.inside.entries c.self.inside.root c.args.self.now.marks c.args.self.now.tree.trees (look_set c.args.set.now) c.args.set.now.node k)))
    (ap (λ (s : Source). s.changed) c.self.view_is)
