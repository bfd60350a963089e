use Rattle.std.proofs.Common.{Some, None, sym, ◌∙◌, append-nil}
use Rattle.ax_stitch.proofs.Views.{view_told, view_some, node_told, children_told}
use Rattle.ax_stitch.proofs.Places.{level_some, not_gone, node_in}
use Rattle.ax_stitch.proofs.Kids.{kids_told}
use Rattle.ax_stitch.proofs.Sound.{sound_hung}
use Rattle.ax_stitch.proofs.walks.children.Goals as goal

pub unwrap-below-requires : goal.unwrap-below-requires
unwrap-below-requires g c = level_some (g.G.Grove.forest c.args.g.now) c.args.p c.levels_below.result c.requires c.levels_below.ensures.level

pub unwrap-view-requires : goal.unwrap-view-requires
unwrap-view-requires g c = view_some g.G.Tree.TreeView.tree c.tree.result _ c.tree.ensures.tree (not_gone (g.G.Grove.forest c.args.g.now) c.args.p c.requires)

pub unwrap-node-requires : goal.unwrap-node-requires
unwrap-node-requires g c =
    node_told (g.G.Tree.TreeView.tree c.unwrap-view.result.now) c.args.p.node c.node.result
    (node_in (g.G.Grove.forest c.args.g.now) c.args.p (g.G.Tree.TreeView.tree c.unwrap-view.result.now) c.requires
    (view_told g.G.Tree.TreeView.tree c.tree.result c.unwrap-view.result _ c.tree.ensures.tree c.unwrap-view.ensures)) c.node.ensures

pub returns-in_ok-push-in-Some : goal.returns-in_ok-push-in-Some
returns-in_ok-push-in-Some g c =
    let m = g.G.Tree.TreeView.tree c.unwrap-view.result.now in
    c.in_ok-push-in-Some.ensures.ok
    ∙ kids_told (g.G.Grove.forest c.args.g.now) c.args.p m c.unwrap-below.result c.as_slice.result.now c.in_ok-found.found (Some c.in-Some.root)
    (sym c.unwrap-below.ensures ∙ c.levels_below.ensures.level) c.levels_below.ensures.formed c.requires
    (view_told g.G.Tree.TreeView.tree c.tree.result c.unwrap-view.result _ c.tree.ensures.tree c.unwrap-view.ensures) (sound_hung (g.G.Grove.forest c.args.g.now) c.args.p c.tree.ensures.sound)
    (children_told m c.args.p.node c.node.result c.unwrap-node.result c.as_slice.result.now c.node.ensures c.unwrap-node.ensures c.as_slice.ensures) c.in_ok-found.ensures c.in-Some.ensures

pub returns-in-None : goal.returns-in-None
returns-in-None g c =
    let m = g.G.Tree.TreeView.tree c.unwrap-view.result.now in
    sym (append-nil c.in_ok-found.found)
    ∙ kids_told (g.G.Grove.forest c.args.g.now) c.args.p m c.unwrap-below.result c.as_slice.result.now c.in_ok-found.found None
    (sym c.unwrap-below.ensures ∙ c.levels_below.ensures.level) c.levels_below.ensures.formed c.requires
    (view_told g.G.Tree.TreeView.tree c.tree.result c.unwrap-view.result _ c.tree.ensures.tree c.unwrap-view.ensures) (sound_hung (g.G.Grove.forest c.args.g.now) c.args.p c.tree.ensures.sound)
    (children_told m c.args.p.node c.node.result c.unwrap-node.result c.as_slice.result.now c.node.ensures c.unwrap-node.ensures c.as_slice.ensures) c.in_ok-found.ensures c.in-None.ensures
