use Rattle.std.proofs.Common.{sym, ◌∙◌}
use Rattle.ax_stitch.proofs.Views.{view_told, view_some, node_told}
use Rattle.ax_stitch.proofs.Places.{not_gone, node_in}
use Rattle.ax_combine.proofs.Made.{there_at, listed_row, row_done}
use Rattle.ax_combine.proofs.nodes.make_row.Goals as goal

pub unwrap-p-requires : goal.unwrap-p-requires
unwrap-p-requires g c = there_at c.args.numbering.now c.args.at c.number_at-id.result c.place.result c.requires.there c.number_at-id.ensures c.place.ensures

pub unwrap-view-requires : goal.unwrap-view-requires
unwrap-view-requires g c =
    let f = g.G.Grove.forest c.args.g.now in
    let p = c.unwrap-p.result in
    let has = listed_row f c.args.numbering.now c.args.at c.number_at-id.result p c.requires.numbering c.requires.there c.number_at-id.ensures (sym c.unwrap-p.ensures ∙ c.place.ensures) in
    view_some g.G.Tree.TreeView.tree c.tree.result _ c.tree.ensures.tree (not_gone f p has)

pub unwrap-node-requires : goal.unwrap-node-requires
unwrap-node-requires g c =
    let f = g.G.Grove.forest c.args.g.now in
    let p = c.unwrap-p.result in
    let m = g.G.Tree.TreeView.tree c.unwrap-view.result.now in
    let has = listed_row f c.args.numbering.now c.args.at c.number_at-id.result p c.requires.numbering c.requires.there c.number_at-id.ensures (sym c.unwrap-p.ensures ∙ c.place.ensures) in
    node_told m p.node c.node.result (node_in f p m has (view_told g.G.Tree.TreeView.tree c.tree.result c.unwrap-view.result _ c.tree.ensures.tree c.unwrap-view.ensures)) c.node.ensures

pub children-requires : goal.children-requires
children-requires g c =
    let f = g.G.Grove.forest c.args.g.now in
    listed_row f c.args.numbering.now c.args.at c.number_at-id.result c.unwrap-p.result c.requires.numbering c.requires.there c.number_at-id.ensures (sym c.unwrap-p.ensures ∙ c.place.ensures)

pub above-above-requires : goal.above-above-requires
above-above-requires g c =
    let f = g.G.Grove.forest c.args.g.now in
    listed_row f c.args.numbering.now c.args.at c.number_at-id.result c.unwrap-p.result c.requires.numbering c.requires.there c.number_at-id.ensures (sym c.unwrap-p.ensures ∙ c.place.ensures)

pub returns : goal.returns
returns g c =
    let f = g.G.Grove.forest c.args.g.now in
    let m = g.G.Tree.TreeView.tree c.unwrap-view.result.now in
    row_done f c.args.numbering.now c.args.at c.number_at-id.result c.unwrap-p.result m c.node.result c.unwrap-node.result c.in_ok-states.states c.in_ok-attrs.attrs c.in_ok-children.children c.above-above.result
    c.tree.ensures.sound c.requires.numbering c.requires.there c.number_at-id.ensures (sym c.unwrap-p.ensures ∙ c.place.ensures)
    (view_told g.G.Tree.TreeView.tree c.tree.result c.unwrap-view.result _ c.tree.ensures.tree c.unwrap-view.ensures) c.node.ensures c.unwrap-node.ensures c.in_ok-states.ensures c.in_ok-attrs.ensures c.in_ok-children.ensures
    c.above-above.ensures
