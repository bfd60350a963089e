use Rattle.ax_run_rules.specs.Replies.{answer_of}
use Rattle.ax_query.proofs.Places.{refused, listed, children_reply}
use Rattle.ax_query.proofs.neighbours.children.Goals as goal

pub returns-in-Some : goal.returns-in-Some
unfolding answer_of
returns-in-Some g c = refused (g.G.Grove.forest c.args.g.now) c.args.p.now _ c.in-Some.refusal c.in-Some.ensures

pub children-requires : goal.children-requires
children-requires g c = listed (g.G.Grove.forest c.args.g.now) c.args.p.now c.in-None.ensures

pub returns-in_ok-places-in-None : goal.returns-in_ok-places-in-None
returns-in_ok-places-in-None g c = children_reply (g.G.Grove.forest c.args.g.now) c.args.p.now c.in_ok-places-in-None.places c.in-None.ensures c.in_ok-places-in-None.ensures
