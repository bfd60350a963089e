use Rattle.std.proofs.Common.{sym, ap, subst, ◌∙◌}
use Rattle.std.proofs.lemmas.Bool.{false≢true}
use Rattle.ax_trees.specs.Trees.{root_of, IsTree}
use Rattle.ax_combine.specs.Kept.{Joined, kept_trees}
use Rattle.ax_combine.proofs.Rows.{root_none, root_first}
use Rattle.ax_combine.proofs.combined.CombinedTreeView.root.Goals as goal

pub returns-then-is_empty-clause-root : goal.returns-then-is_empty-clause-root
returns-then-is_empty-clause-root c =
    let rows = c.self.inside.rows in
    root_none rows c.self.inside.numbering (kept_trees rows) c.self.invariant (c.is_empty.ensures.0 c.if-is_empty.true) ∙ ap (λ (j : Joined). root_of j.tree.trees) c.self.view_is

pub returns-else-is_empty-clause-root : goal.returns-else-is_empty-clause-root
returns-else-is_empty-clause-root c =
    let rows = c.self.inside.rows in
    root_first rows c.self.inside.numbering (kept_trees rows) c.number_at.result c.self.invariant (λ e. false≢true (sym c.if-is_empty.false ∙ c.is_empty.ensures.1 e)) c.number_at.ensures ∙ ap (λ (j : Joined). root_of j.tree.trees) c.self.view_is

pub returns-then-is_empty-clause-well_formed : goal.returns-then-is_empty-clause-well_formed
returns-then-is_empty-clause-well_formed c = subst (λ (j : Joined). IsTree j.tree.trees) c.self.view_is c.self.invariant.is_tree

pub returns-else-is_empty-clause-well_formed : goal.returns-else-is_empty-clause-well_formed
returns-else-is_empty-clause-well_formed c = subst (λ (j : Joined). IsTree j.tree.trees) c.self.view_is c.self.invariant.is_tree
