use Rattle.std.proofs.Common.{sym, ◌∙◌}
use Rattle.ax_rules.specs.Stitched.{stitched}
use Rattle.ax_moves.proofs.AboveLemmas.{after_nothing, after_told}
use Rattle.ax_moves.proofs.above.after.Goals as goal

pub returns-in-None-clause-bound : goal.returns-in-None-clause-bound
returns-in-None-clause-bound g c = after_nothing (stitched (g.G.Grove.forest c.args.g.now)) c.args.unit c.args.offset (sym c.in-None.is ∙ c.root.ensures)

pub returns-clause-bound : goal.returns-clause-bound
returns-clause-bound g c = after_told (g.G.Grove.forest c.args.g.now) c.in-Some.first c.args.unit c.args.offset c.walk.new.state c.in_ok-walk.ensures.sound c.in_ok-walk.ensures.seen
