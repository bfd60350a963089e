use Rattle.std.proofs.Common.{ap, ◌∙◌}
use Rattle.ax_rules.specs.Stitched.{stitched}
use Rattle.ax_position.specs.Walks.{folded}
use Rattle.ax_position.proofs.Joined.{rows_twice}
use Rattle.ax_position.proofs.places.walk.Goals as goal

pub returns-clause-seen : goal.returns-clause-seen
returns-clause-seen g c = c.in_ok-walk_for_two.ensures.seen ∙ ap (folded g.S.Visitor.seen c.args.state.now) (rows_twice (stitched (g.G.Grove.forest c.args.g.now)) c.args.target.now)
