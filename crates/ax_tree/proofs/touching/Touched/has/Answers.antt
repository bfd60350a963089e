use Rattle.std.proofs.Common.{ap, ◌∙◌}
use Rattle.ax_trees.specs.Lists.{contains}
use Rattle.ax_tree.proofs.TouchingLemmas.{contains_any}
use Rattle.ax_tree.proofs.touching.Touched.has.Goals as goal

pub returns : goal.returns
returns c = c.contains.ensures ∙ contains_any _ c.args.id ∙ ap (λ ids. contains ids c.args.id) c.self.view_is
