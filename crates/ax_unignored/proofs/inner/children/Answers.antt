use Rattle.std.proofs.Common.{◌++◌, sym, ap, ◌∙◌}
use Rattle.ax_stitch.proofs.Places.{level_some, stands_listed, stands}
use Rattle.ax_unignored.specs.Tops.{tops_below}
use Rattle.ax_unignored.proofs.Joint.{kids_are}
use Rattle.ax_unignored.proofs.inner.children.Goals as goal

pub unwrap-below-requires : goal.unwrap-below-requires
unwrap-below-requires g c =
    let f = g.G.Grove.forest c.args.g.now in
    let p = c.args.p in
    level_some f p c.levels_below.result c.requires.there c.levels_below.ensures.level

pub add_below-requires : goal.add_below-requires
add_below-requires g c =
    let f = g.G.Grove.forest c.args.g.now in
    let p = c.args.p in
    stands_listed f p c.requires.there

pub returns : goal.returns
returns g c =
    let f = g.G.Grove.forest c.args.g.now in
    let p = c.args.p in
    let level = sym c.unwrap-below.ensures ∙ c.levels_below.ensures.level in
    let st = stands f p c.requires.there in
    kids_are f p c.unwrap-below.result st.tree _ c.tree.ensures.sound level (sym st.live) c.requires.there c.requires.shown (c.in_ok-add_below.ensures ∙ ap (λ l. l ++ tops_below c.unwrap-below.result f p) c.new-found.ensures)
