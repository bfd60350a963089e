use Rattle.std.proofs.Common.{sym, ap, ◌∙◌}
use Rattle.ax_stitch.proofs.Views.{node_told, children_told, view_told, view_some}
use Rattle.ax_stitch.proofs.Places.{level_some, not_gone, node_in}
use Rattle.ax_position.specs.Marks.{child_before}
use Rattle.ax_position.proofs.Children.{kids_told}
use Rattle.ax_position.proofs.kids.child_before.Goals as goal

pub unwrap-below-requires : goal.unwrap-below-requires
unwrap-below-requires g c = level_some (g.G.Grove.forest c.args.g.now) c.args.p.now c.levels_below.result c.requires c.levels_below.ensures.level

pub unwrap-view-requires : goal.unwrap-view-requires
unwrap-view-requires g c = view_some g.G.Tree.TreeView.tree c.tree.result _ c.tree.ensures.tree (not_gone (g.G.Grove.forest c.args.g.now) c.args.p.now c.requires)

pub unwrap-node-requires : goal.unwrap-node-requires
unwrap-node-requires g c =
    node_told (g.G.Tree.TreeView.tree c.unwrap-view.result.now) c.args.p.now.node c.node.result
    (node_in (g.G.Grove.forest c.args.g.now) c.args.p.now (g.G.Tree.TreeView.tree c.unwrap-view.result.now) c.requires (view_told g.G.Tree.TreeView.tree c.tree.result c.unwrap-view.result _ c.tree.ensures.tree c.unwrap-view.ensures))
    c.node.ensures

pub returns : goal.returns
returns g c =
    let m = g.G.Tree.TreeView.tree c.unwrap-view.result.now in
    c.among_children.ensures
    ∙ ap (λ xs. child_before xs c.args.index)
    (kids_told (g.G.Grove.forest c.args.g.now) c.args.p.now m c.unwrap-below.result c.as_slice.result.now c.hung_root-hung.result c.tree.ensures.sound
    (sym c.unwrap-below.ensures ∙ c.levels_below.ensures.level) c.requires
    (view_told g.G.Tree.TreeView.tree c.tree.result c.unwrap-view.result _ c.tree.ensures.tree c.unwrap-view.ensures)
    (children_told m c.args.p.now.node c.node.result c.unwrap-node.result c.as_slice.result.now c.node.ensures c.unwrap-node.ensures c.as_slice.ensures) c.hung_root-hung.ensures)
