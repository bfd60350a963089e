use Rattle.std.proofs.Common.{◌-◌, refl, sym, ◌∙◌}
use Rattle.ax_stitch.proofs.Views.{or_else_some, or_else_none}
use Rattle.ax_stitch.proofs.Places.{level_some, stands_listed}
use Rattle.ax_unignored.specs.Runs.{first_behind}
use Rattle.ax_unignored.proofs.Firsts.{next_is}
use Rattle.ax_unignored.proofs.forward.next.Goals as goal

pub unwrap-below-requires : goal.unwrap-below-requires
unwrap-below-requires g c =
    let f = g.G.Grove.forest c.args.g.now in
    let p = c.args.p in
    level_some f p c.levels_below.result c.requires.there c.levels_below.ensures.level

pub first_below-inner-requires : goal.first_below-inner-requires
first_below-inner-requires g c =
    let f = g.G.Grove.forest c.args.g.now in
    let p = c.args.p in
    stands_listed f p c.requires.there

pub first_behind-requires : goal.first_behind-requires
first_behind-requires g c =
    let f = g.G.Grove.forest c.args.g.now in
    let p = c.args.p in
    stands_listed f p c.requires.there

pub returns-then-is_some : goal.returns-then-is_some
returns-then-is_some g c =
    let f = g.G.Grove.forest c.args.g.now in
    let p = c.args.p in
    let level = sym c.unwrap-below.ensures ∙ c.levels_below.ensures.level in
    sym (next_is f p c.unwrap-below.result c.first_below-inner.result (first_behind (8 - c.unwrap-below.result) c.unwrap-below.result f p) c.tree.ensures.sound level c.requires.there c.requires.shown c.first_below-inner.ensures refl
    ∙ or_else_some c.first_below-inner.result _ (sym c.is_some.ensures ∙ c.if-is_some.true))

pub returns : goal.returns
returns g c =
    let f = g.G.Grove.forest c.args.g.now in
    let p = c.args.p in
    let level = sym c.unwrap-below.ensures ∙ c.levels_below.ensures.level in
    sym (next_is f p c.unwrap-below.result c.first_below-inner.result c.first_behind.result c.tree.ensures.sound level c.requires.there c.requires.shown c.first_below-inner.ensures c.first_behind.ensures
    ∙ or_else_none c.first_below-inner.result _ (sym c.is_some.ensures ∙ c.if-is_some.false))
