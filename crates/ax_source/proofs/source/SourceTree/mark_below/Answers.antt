use Rattle.std.proofs.Common.{List, ℕ, sym, ap, ◌∙◌}
use Rattle.ax_tree.specs.MarkRule.{add_marks}
use Rattle.ax_trees.specs.Nodes.{pre}
use Rattle.ax_source.specs.Source.{Source}
use Rattle.ax_source.proofs.Edited.{mark_below_source}
use Rattle.ax_source.proofs.Kept.{source_as, source_holds}
use Rattle.ax_source.proofs.source.SourceTree.mark_below.Goals as goal

pub invariant_of-self-2 : goal.invariant_of-self-2
invariant_of-self-2 c =
    let k = source_as c.self.inside.entries c.self.inside.root _ c.args.self.now c.self.view_is c.self.invariant in
    let marks = c.in-Ok-mark_all.ensures.ok ∙ ap (λ (l : List ℕ). add_marks c.self.inside.marks l) (c.as_slice.ensures ∙ c.in-Ok.ensures) ∙ ap (λ (s : Source). add_marks s.marks (pre c.args.self.now.tree.trees c.args.id)) c.self.view_is in
    source_holds c.self.inside.entries c.self.inside.root c.mark_all.new.marks c.args.self.now.tree.trees
    (mark_below_source c.self.inside.entries c.self.inside.root c.args.self.now.marks c.mark_all.new.marks c.args.self.now.tree.trees c.args.id k (sym c.if-not-holds.ensures) marks)
