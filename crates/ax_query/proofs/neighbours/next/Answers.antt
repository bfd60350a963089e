use Rattle.std.proofs.Common.{◌∙◌}
use Rattle.ax_run_rules.specs.Replies.{answer_of}
use Rattle.ax_query.proofs.Places.{refused, listed, next_reply}
use Rattle.ax_query.proofs.neighbours.next.Goals as goal

pub returns-in-Some : goal.returns-in-Some
unfolding answer_of
returns-in-Some g c = refused (g.G.Grove.forest c.args.g.now) c.args.p.now _ c.in-Some.refusal c.in-Some.ensures

pub next-requires : goal.next-requires
next-requires g c = listed (g.G.Grove.forest c.args.g.now) c.args.p.now c.in-None.ensures

pub returns-in-None : goal.returns-in-None
returns-in-None g c = c.place_or.ensures ∙ next_reply (g.G.Grove.forest c.args.g.now) c.args.p.now c.next.result c.in-None.ensures c.next.ensures
