use Rattle.std.proofs.Common.{sym, ◌∙◌}
use Rattle.ax_stitch.proofs.Places.{level_some, stands_listed}
use Rattle.ax_unignored.proofs.Lasts.{prev_is}
use Rattle.ax_unignored.proofs.backward.prev.Goals as goal

pub unwrap-below-requires : goal.unwrap-below-requires
unwrap-below-requires g c =
    let f = g.G.Grove.forest c.args.g.now in
    let p = c.args.p in
    level_some f p c.levels_below.result c.requires.there c.levels_below.ensures.level

pub last_ahead-requires : goal.last_ahead-requires
last_ahead-requires g c =
    let f = g.G.Grove.forest c.args.g.now in
    let p = c.args.p in
    stands_listed f p c.requires.there

pub returns : goal.returns
returns g c =
    let f = g.G.Grove.forest c.args.g.now in
    let p = c.args.p in
    let level = sym c.unwrap-below.ensures ∙ c.levels_below.ensures.level in
    prev_is f p c.unwrap-below.result c.last_ahead.result c.tree.ensures.sound level c.requires.there c.requires.shown c.last_ahead.ensures
