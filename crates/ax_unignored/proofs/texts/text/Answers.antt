use Rattle.std.proofs.Common.{◌++◌, sym, ap, ◌∙◌}
use Rattle.ax_stitch.proofs.Views.{view_told, view_some}
use Rattle.ax_stitch.proofs.Places.{level_some, not_gone, node_in}
use Rattle.ax_unignored.specs.Tops.{texts_at}
use Rattle.ax_unignored.proofs.Joint.{text_of_place}
use Rattle.ax_unignored.proofs.texts.text.Goals as goal

pub unwrap-below-requires : goal.unwrap-below-requires
unwrap-below-requires g c =
    let f = g.G.Grove.forest c.args.g.now in
    let p = c.args.p in
    level_some f p c.levels_below.result c.requires.there c.levels_below.ensures.level

pub unwrap-view-requires : goal.unwrap-view-requires
unwrap-view-requires g c =
    let f = g.G.Grove.forest c.args.g.now in
    let p = c.args.p in
    view_some g.G.Tree.TreeView.tree c.tree.result _ c.tree.ensures.tree (not_gone f p c.requires.there)

pub add_texts-requires : goal.add_texts-requires
add_texts-requires g c =
    let f = g.G.Grove.forest c.args.g.now in
    let p = c.args.p in
    let m = g.G.Tree.TreeView.tree c.unwrap-view.result.now in
    let k = view_told g.G.Tree.TreeView.tree c.tree.result c.unwrap-view.result _ c.tree.ensures.tree c.unwrap-view.ensures in
    record { live = k; there = node_in f p m c.requires.there k }

pub returns : goal.returns
returns g c =
    let f = g.G.Grove.forest c.args.g.now in
    let p = c.args.p in
    let m = g.G.Tree.TreeView.tree c.unwrap-view.result.now in
    let k = view_told g.G.Tree.TreeView.tree c.tree.result c.unwrap-view.result _ c.tree.ensures.tree c.unwrap-view.ensures in
    let level = sym c.unwrap-below.ensures ∙ c.levels_below.ensures.level in
    text_of_place f p c.unwrap-below.result m c.in_ok-text.text c.tree.ensures.sound level k c.requires.there
    (c.in_ok-text.ensures ∙ (c.in_ok-add_texts.ensures.text ∙ ap (λ l. l ++ texts_at c.unwrap-below.result f p.tree m.trees p.node) c.new-out.ensures))
