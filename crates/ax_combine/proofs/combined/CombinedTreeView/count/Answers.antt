use Rattle.std.proofs.Common.{sym, ap, ◌∙◌}
use Rattle.ax_trees.specs.Trees.{count}
use Rattle.ax_combine.specs.Kept.{Joined}
use Rattle.ax_combine.proofs.combined.CombinedTreeView.count.Goals as goal

pub returns : goal.returns
returns c = c.len.ensures ∙ (sym c.self.invariant.counts ∙ ap (λ (j : Joined). count j.tree.trees) c.self.view_is)
