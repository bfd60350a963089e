use Rattle.std.proofs.Common.{sym, ◌∙◌}
use Rattle.ax_stitch.proofs.Views.{view_told, view_some, node_told}
use Rattle.ax_stitch.proofs.Places.{listed_node, listed_live}
use Rattle.ax_unignored.proofs.Lit.{shows_told}
use Rattle.ax_unignored.proofs.show.is_lit_at.Goals as goal

pub unwrap-view-requires : goal.unwrap-view-requires
unwrap-view-requires g c = view_some g.G.Tree.TreeView.tree c.tree.result _ c.tree.ensures.tree (listed_live (g.G.Grove.forest c.args.g.now) c.args.p.now c.requires)

pub unwrap-node-requires : goal.unwrap-node-requires
unwrap-node-requires g c =
    let m = g.G.Tree.TreeView.tree c.unwrap-view.result.now in
    let l = view_told g.G.Tree.TreeView.tree c.tree.result c.unwrap-view.result _ c.tree.ensures.tree c.unwrap-view.ensures in
    node_told m c.args.p.now.node c.node.result (sym (listed_node (g.G.Grove.forest c.args.g.now) c.args.p.now m l) ∙ c.requires) c.node.ensures

pub returns : goal.returns
returns g c =
    let m = g.G.Tree.TreeView.tree c.unwrap-view.result.now in
    let l = view_told g.G.Tree.TreeView.tree c.tree.result c.unwrap-view.result _ c.tree.ensures.tree c.unwrap-view.ensures in
    c.is_lit.ensures ∙ sym (shows_told (g.G.Grove.forest c.args.g.now) c.args.p.now m c.node.result c.unwrap-node.result l c.node.ensures c.unwrap-node.ensures)
