use Rattle.std.proofs.Common.{◌∙◌, ap, sym, subst}
use Rattle.ax_node.specs.declared.tree_data.TreeData.{TreeData}
use Rattle.ax_mirror.specs.Placed.{Nodes}
use Rattle.ax_mirror.specs.Kept.{HoldsTree, shown}
use Rattle.ax_mirror.specs.Mirrors.{with_about}
use Rattle.ax_mirror.proofs.mirrored.Mirror.share.Goals as goal

pub invariant_of-result : goal.invariant_of-result
invariant_of-result c = subst (λ (n : Nodes). HoldsTree n c.self.inside.root (shown n c.self.inside.root)) (sym c.in_ok-nodes.ensures) c.self.invariant

pub returns : goal.returns
returns c =
    ap (λ (n : Nodes). with_about c.in_ok-about.about (shown n c.self.inside.root)) c.in_ok-nodes.ensures
    ∙ ap (λ (a : TreeData). with_about a (shown c.self.inside.nodes c.self.inside.root)) c.in_ok-about.ensures ∙ c.self.view_is
