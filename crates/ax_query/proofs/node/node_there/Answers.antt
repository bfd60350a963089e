use Rattle.std.proofs.Common.{sym, ◌∙◌}
use Rattle.ax_stitch.proofs.Views.{view_told, view_some, node_told}
use Rattle.ax_stitch.proofs.Places.{level_some, not_gone, node_in}
use Rattle.ax_query.proofs.Places.{listed}
use Rattle.ax_query.proofs.Nodes.{node_reply}
use Rattle.ax_query.proofs.node.node_there.Goals as goal

pub unwrap-below-requires : goal.unwrap-below-requires
unwrap-below-requires g c =
    level_some (g.G.Grove.forest c.args.g.now) c.args.p.now c.levels_below.result (listed (g.G.Grove.forest c.args.g.now) c.args.p.now (sym c.requires)) c.levels_below.ensures.level

pub unwrap-view-requires : goal.unwrap-view-requires
unwrap-view-requires g c =
    view_some g.G.Tree.TreeView.tree c.tree.result _ c.tree.ensures.tree
    (not_gone (g.G.Grove.forest c.args.g.now) c.args.p.now (listed (g.G.Grove.forest c.args.g.now) c.args.p.now (sym c.requires)))

pub unwrap-node-requires : goal.unwrap-node-requires
unwrap-node-requires g c =
    node_told (g.G.Tree.TreeView.tree c.unwrap-view.result.now) c.args.p.now.node c.node.result
    (node_in (g.G.Grove.forest c.args.g.now) c.args.p.now (g.G.Tree.TreeView.tree c.unwrap-view.result.now) (listed (g.G.Grove.forest c.args.g.now) c.args.p.now (sym c.requires))
    (view_told g.G.Tree.TreeView.tree c.tree.result c.unwrap-view.result _ c.tree.ensures.tree c.unwrap-view.ensures)) c.node.ensures

pub returns : goal.returns
returns g c =
    node_reply (g.G.Grove.forest c.args.g.now) c.args.p.now (g.G.Tree.TreeView.tree c.unwrap-view.result.now) c.unwrap-below.result c.node.result c.unwrap-node.result c.as_slice.result.now c.hung_root-hung.result c.child_count.result
    c.requires c.tree.ensures.sound (sym c.unwrap-below.ensures ∙ c.levels_below.ensures.level)
    (view_told g.G.Tree.TreeView.tree c.tree.result c.unwrap-view.result _ c.tree.ensures.tree c.unwrap-view.ensures) c.node.ensures c.unwrap-node.ensures c.as_slice.ensures c.hung_root-hung.ensures c.child_count.ensures
