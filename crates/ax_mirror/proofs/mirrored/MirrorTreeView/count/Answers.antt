use Rattle.std.proofs.Common.{◌∙◌, ap}
use Rattle.ax_trees.specs.Trees.{count}
use Rattle.ax_tree.specs.Tree.{Tree}
use Rattle.ax_mirror.specs.Kept.{shown}
use Rattle.ax_mirror.proofs.Shows.{count_is}
use Rattle.ax_mirror.proofs.mirrored.MirrorTreeView.count.Goals as goal

pub returns : goal.returns
returns c = c.len.ensures ∙ count_is c.self.inside.nodes c.self.inside.root (shown c.self.inside.nodes c.self.inside.root) c.self.invariant ∙ ap (λ (t : Tree). count t.trees) c.self.view_is
