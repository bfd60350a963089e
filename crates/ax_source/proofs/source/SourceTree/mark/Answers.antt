use Rattle.std.proofs.Common.{sym, ap, ◌∙◌}
use Rattle.ax_tree.specs.MarkRule.{add_mark}
use Rattle.ax_source.specs.Source.{Source}
use Rattle.ax_source.proofs.MarkLists.{added-mark}
use Rattle.ax_source.proofs.Edited.{mark_source}
use Rattle.ax_source.proofs.Kept.{source_as, source_holds, edited_seen}
use Rattle.ax_source.proofs.source.SourceTree.mark.Goals as goal

pub invariant_of-self-2 : goal.invariant_of-self-2
invariant_of-self-2 c =
    let k = source_as c.self.inside.entries c.self.inside.root _ c.args.self.now c.self.view_is c.self.invariant in
    let marks = c.in-Ok.ensures.ok ∙ added-mark c.self.inside.marks c.args.id ∙ ap (λ (s : Source). add_mark s.marks c.args.id) c.self.view_is in
    let is = mark_source c.self.inside.entries c.self.inside.root c.args.self.now.marks c.add.new.self c.args.self.now.tree.trees c.args.id k (sym c.if-not-holds.ensures) marks in
    source_holds c.self.inside.entries c.self.inside.root c.add.new.self c.args.self.now.tree.trees is

pub returns-clause-ok : goal.returns-clause-ok
returns-clause-ok c =
    let k = source_as c.self.inside.entries c.self.inside.root _ c.args.self.now c.self.view_is c.self.invariant in
    let marks = c.in-Ok.ensures.ok ∙ added-mark c.self.inside.marks c.args.id ∙ ap (λ (s : Source). add_mark s.marks c.args.id) c.self.view_is in
    let is = mark_source c.self.inside.entries c.self.inside.root c.args.self.now.marks c.add.new.self c.args.self.now.tree.trees c.args.id k (sym c.if-not-holds.ensures) marks in
    edited_seen c.self.inside.entries c.self.inside.root c.add.new.self _ c.args.self.now.tree.trees _ _ _ _ is
    (ap (λ (s : Source). s.tree.about) c.self.view_is) marks (ap (λ (s : Source). s.changed) c.self.view_is)
