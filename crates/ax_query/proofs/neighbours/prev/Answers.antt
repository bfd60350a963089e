use Rattle.std.proofs.Common.{◌∙◌}
use Rattle.ax_run_rules.specs.Replies.{answer_of}
use Rattle.ax_query.proofs.Places.{refused, listed, prev_reply}
use Rattle.ax_query.proofs.neighbours.prev.Goals as goal

pub returns-in-Some : goal.returns-in-Some
unfolding answer_of
returns-in-Some g c = refused (g.G.Grove.forest c.args.g.now) c.args.p.now _ c.in-Some.refusal c.in-Some.ensures

pub prev-requires : goal.prev-requires
prev-requires g c = listed (g.G.Grove.forest c.args.g.now) c.args.p.now c.in-None.ensures

pub returns-in-None : goal.returns-in-None
returns-in-None g c = c.place_or.ensures ∙ prev_reply (g.G.Grove.forest c.args.g.now) c.args.p.now c.prev.result c.in-None.ensures c.prev.ensures
