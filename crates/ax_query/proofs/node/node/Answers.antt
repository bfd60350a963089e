use Rattle.ax_run_rules.specs.Replies.{answer_of}
use Rattle.ax_query.proofs.Places.{refused}
use Rattle.ax_query.proofs.node.node.Goals as goal

pub returns-in-Some : goal.returns-in-Some
unfolding answer_of
returns-in-Some g c = refused (g.G.Grove.forest c.args.g.now) c.args.p.now _ c.in-Some.refusal c.in-Some.ensures
