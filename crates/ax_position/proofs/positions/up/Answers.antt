use Rattle.std.proofs.Common.{sym, ◌∙◌}
use Rattle.ax_rules.specs.Stitched.{stitched}
use Rattle.ax_rules.specs.Positions.{mark}
use Rattle.ax_position.proofs.Ups.{up_none_told}
use Rattle.ax_position.proofs.positions.up.Goals as goal

pub returns-in-Ok-mark_at : goal.returns-in-Ok-mark_at
returns-in-Ok-mark_at g c =
    up_none_told (stitched (g.G.Grove.forest c.args.g.now)) (mark c.in-Ok-mark_at.field-0.place c.in-Ok-mark_at.field-0.offset c.in-Ok-mark_at.field-0.affinity) _ c.in-Ok.place
    (c.in-Ok-mark_at.ensures.mark ∙ sym c.in-Ok.ensures.mark) c.in-Ok-mark_at.ensures.at (sym c.in-None.is ∙ c.parent.ensures)
