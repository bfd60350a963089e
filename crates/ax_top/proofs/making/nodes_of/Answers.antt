use Rattle.std.proofs.Common.{ℕ, ◌+◌, ap, ◌∙◌, refl}
use Rattle.std.proofs.lemmas.List.{take_all}
use Rattle.ax_forest.specs.Past.{forest_of}
use Rattle.ax_top.proofs.Counting.{nodes_at, nodes_more, all_nodes}
use Rattle.ax_top.proofs.making.nodes_of.Goals as goal

pub loop-tree-init : goal.loop-tree-init
loop-tree-init c = refl

pub loop-tree-preserved : goal.loop-tree-preserved
loop-tree-preserved c =
    nodes_more (forest_of c.args.forest.now) c.trees-tree-items.result.now c.loop-tree.tree-index c.tree-item.result c.loop-tree.nodes c.in_ok-nodes.nodes c.loop-tree-test.true c.tree-item.is c.loop-tree.invariant
    (c.in_ok-nodes.ensures ∙ ap (λ (n : ℕ). c.loop-tree.nodes + n) c.nodes_in.ensures)

pub returns : goal.returns
returns c =
    c.loop-tree.invariant
    ∙ (ap (nodes_at (forest_of c.args.forest.now)) (take_all c.loop-tree.tree-index c.trees-tree-items.result.now c.loop-tree-test.false ∙ c.trees-tree-items.ensures) ∙ all_nodes c.args.forest.now c.requires)
