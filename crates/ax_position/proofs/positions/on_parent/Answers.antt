use Rattle.std.proofs.Common.{sym}
use Rattle.ax_rules.specs.Stitched.{stitched}
use Rattle.ax_rules.specs.Positions.{mark}
use Rattle.ax_position.proofs.Ups.{up_some_told}
use Rattle.ax_position.proofs.positions.on_parent.Goals as goal

pub returns-in-Ok : goal.returns-in-Ok
returns-in-Ok g c =
    up_some_told (stitched (g.G.Grove.forest c.args.g.now)) (mark c.in-Ok.m.place c.in-Ok.m.offset c.in-Ok.m.affinity) _ c.args.place.now c.args.above.now c.in-Ok.m.start c.global.result c.in-Ok.m.above c.text_pos.result
    c.in-Ok.ensures.mark c.in-Ok.ensures.at (sym c.requires.above) c.in-Ok.ensures.start c.global.ensures c.in-Ok.ensures.above c.text_pos.ensures
