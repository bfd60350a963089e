use Rattle.std.proofs.Common.{ℕ, not, eqb, List, ap, ◌∙◌, sym}
use Rattle.ax_trees.specs.Lists.{contains}
use Rattle.ax_trees.proofs.Lists.{filter_in}
use Rattle.ax_source.proofs.source.SourceTree.unmark.Goals as goal

pub invariant_of-self : goal.invariant_of-self
invariant_of-self c = record {
  keeps = c.self.invariant.keeps;
  few = c.self.invariant.few;
  marked = λ z h. c.self.invariant.marked z (filter_in (λ other. not (eqb other c.args.id)) c.self.inside.marks z (sym (ap (λ (m : List ℕ). contains m z) c.remove.ensures.rest) ∙ h)).0;
}
