use Rattle.std.proofs.Common.{ap, ◌∙◌}
use Rattle.ax_rules.specs.Stitched.{stitched}
use Rattle.ax_position.specs.Walks.{rows, folded}
use Rattle.ax_position.specs.Surveys.{surveyed}
use Rattle.ax_position.specs.Ranks.{met_first}
use Rattle.ax_position.proofs.Pairing.{pair_one, pair_other, pair_meeting, walk_seen}
use Rattle.ax_position.proofs.pairs.pair_of.Goals as goal

pub returns-clause-one : goal.returns-clause-one
returns-clause-one g c =
    pair_one (stitched (g.G.Grove.forest c.args.g.now)) (record { one = c.args.one.now.place; other = c.args.other.now.place }) (record { one = c.new.result; other = c.new-2.result; meeting = c.new-3.result }) c.walk_for_two.new.state
    (walk_seen c.walk_for_two.result c.walk_for_two.ensures.seen c.walk_for_two.ensures.err)
    ∙ ap (λ v. folded surveyed v (rows (stitched (g.G.Grove.forest c.args.g.now)) c.args.one.now.place)) c.new.ensures

pub returns-clause-other : goal.returns-clause-other
returns-clause-other g c =
    pair_other (stitched (g.G.Grove.forest c.args.g.now)) (record { one = c.args.one.now.place; other = c.args.other.now.place }) (record { one = c.new.result; other = c.new-2.result; meeting = c.new-3.result }) c.walk_for_two.new.state
    (walk_seen c.walk_for_two.result c.walk_for_two.ensures.seen c.walk_for_two.ensures.err)
    ∙ ap (λ v. folded surveyed v (rows (stitched (g.G.Grove.forest c.args.g.now)) c.args.other.now.place)) c.new-2.ensures

pub returns-clause-meeting : goal.returns-clause-meeting
returns-clause-meeting g c =
    pair_meeting (stitched (g.G.Grove.forest c.args.g.now)) (record { one = c.args.one.now.place; other = c.args.other.now.place }) (record { one = c.new.result; other = c.new-2.result; meeting = c.new-3.result }) c.walk_for_two.new.state
    (walk_seen c.walk_for_two.result c.walk_for_two.ensures.seen c.walk_for_two.ensures.err)
    ∙ ap (λ v. folded met_first v (rows (stitched (g.G.Grove.forest c.args.g.now)) c.args.one.now.place)) c.new-3.ensures
