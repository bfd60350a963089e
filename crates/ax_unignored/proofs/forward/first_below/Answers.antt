use Rattle.std.proofs.Common.{find, flat_map, sym, ap, ◌∙◌}
use Rattle.ax_stitch.proofs.Views.{view_told, view_some, node_told, children_told}
use Rattle.ax_stitch.proofs.Places.{listed_node, listed_live}
use Rattle.ax_stitch.proofs.Hung.{hung_live, hung_there}
use Rattle.ax_unignored.specs.Shows.{shows}
use Rattle.ax_unignored.specs.Runs.{run_at}
use Rattle.ax_unignored.proofs.Runs.{children_there, below_lone, below_own}
use Rattle.ax_unignored.proofs.forward.first_below.Goals as goal

pub unwrap-view-requires : goal.unwrap-view-requires
unwrap-view-requires g c =
    let f = g.G.Grove.forest c.args.g.now in
    let p = c.args.p.now in
    view_some g.G.Tree.TreeView.tree c.tree.result _ c.tree.ensures.tree (listed_live f p c.requires)

pub unwrap-node-requires : goal.unwrap-node-requires
unwrap-node-requires g c =
    let f = g.G.Grove.forest c.args.g.now in
    let p = c.args.p.now in
    let m = g.G.Tree.TreeView.tree c.unwrap-view.result.now in
    let k = view_told g.G.Tree.TreeView.tree c.tree.result c.unwrap-view.result _ c.tree.ensures.tree c.unwrap-view.ensures in
    node_told m p.node c.node.result (sym (listed_node f p m k) ∙ c.requires) c.node.ensures

pub unwrap-hung-requires : goal.unwrap-hung-requires
unwrap-hung-requires g c =
    let f = g.G.Grove.forest c.args.g.now in
    let p = c.args.p.now in
    view_some g.G.Tree.TreeView.tree c.tree-in-Some.result _ c.tree-in-Some.ensures.tree (hung_live c.args.levels f p c.in-Some.root c.in-Some.ensures)

pub first_in-requires : goal.first_in-requires
first_in-requires g c =
    let f = g.G.Grove.forest c.args.g.now in
    let p = c.args.p.now in
    let h = g.G.Tree.TreeView.tree c.unwrap-hung.result.now in
    let l = view_told g.G.Tree.TreeView.tree c.tree-in-Some.result c.unwrap-hung.result _ c.tree-in-Some.ensures.tree c.unwrap-hung.ensures in
    record { live = l; there = hung_there c.args.levels f p c.in-Some.root h c.in-Some.ensures l }

pub returns-in-Some : goal.returns-in-Some
returns-in-Some g c =
    let f = g.G.Grove.forest c.args.g.now in
    let p = c.args.p.now in
    let m = g.G.Tree.TreeView.tree c.unwrap-view.result.now in
    let k = view_told g.G.Tree.TreeView.tree c.tree.result c.unwrap-view.result _ c.tree.ensures.tree c.unwrap-view.ensures in
    let h = g.G.Tree.TreeView.tree c.unwrap-hung.result.now in
    let l = view_told g.G.Tree.TreeView.tree c.tree-in-Some.result c.unwrap-hung.result _ c.tree-in-Some.ensures.tree c.unwrap-hung.ensures in
    c.first_in.ensures ∙ sym (ap (find (shows f)) (below_lone c.args.levels f p c.in-Some.root m h c.tree.ensures.sound k c.in-Some.ensures l))

pub first_among-requires : goal.first_among-requires
first_among-requires g c =
    let f = g.G.Grove.forest c.args.g.now in
    let p = c.args.p.now in
    let m = g.G.Tree.TreeView.tree c.unwrap-view.result.now in
    let k = view_told g.G.Tree.TreeView.tree c.tree.result c.unwrap-view.result _ c.tree.ensures.tree c.unwrap-view.ensures in
    record { live = k; there = children_there m p.node c.node.result c.unwrap-node.result c.as_slice.result.now c.node.ensures c.unwrap-node.ensures c.as_slice.ensures }

pub returns-in-None : goal.returns-in-None
returns-in-None g c =
    let f = g.G.Grove.forest c.args.g.now in
    let p = c.args.p.now in
    let m = g.G.Tree.TreeView.tree c.unwrap-view.result.now in
    let k = view_told g.G.Tree.TreeView.tree c.tree.result c.unwrap-view.result _ c.tree.ensures.tree c.unwrap-view.ensures in
    let kids = children_told m p.node c.node.result c.unwrap-node.result c.as_slice.result.now c.node.ensures c.unwrap-node.ensures c.as_slice.ensures in
    c.first_among.ensures ∙ (ap (λ xs. find (shows f) (flat_map (run_at c.args.levels f p.tree m.trees) xs)) kids ∙ sym (ap (find (shows f)) (below_own c.args.levels f p m c.tree.ensures.sound k c.in-None.ensures)))
