use Rattle.std.proofs.Common.{◌≤◌, ◌∙◌, ap, subst}
use Rattle.ax_trees.specs.Trees.{IsTree, height, root_of}
use Rattle.ax_tree.specs.Tree.{Tree}
use Rattle.ax_mirror.specs.Kept.{shown}
use Rattle.ax_mirror.proofs.Shows.{is_tree, root_read}
use Rattle.ax_mirror.proofs.mirrored.MirrorTreeView.root.Goals as goal

pub returns-clause-root : goal.returns-clause-root
returns-clause-root c = root_read c.self.inside.nodes c.self.inside.root (shown c.self.inside.nodes c.self.inside.root) c.self.invariant ∙ ap (λ (t : Tree). root_of t.trees) c.self.view_is

pub returns-clause-well_formed : goal.returns-clause-well_formed
returns-clause-well_formed c = subst (λ (t : Tree). IsTree t.trees) c.self.view_is (is_tree c.self.inside.nodes c.self.inside.root (shown c.self.inside.nodes c.self.inside.root) c.self.invariant)

pub returns-clause-low : goal.returns-clause-low
returns-clause-low c = subst (λ (t : Tree). height t.trees ≤ 256) c.self.view_is c.self.invariant.low
