use Rattle.std.proofs.Common.{arith}
use Rattle.std.proofs.lemmas.Int.{ints}
use Rattle.ax_run_rules.specs.Replies.{answer_of}
use Rattle.ax_query.proofs.Places.{refused, listed, bounds_reply}
use Rattle.ax_query.proofs.neighbours.bounds.Goals as goal

pub returns-in-Some : goal.returns-in-Some
unfolding answer_of
returns-in-Some g c = refused (g.G.Grove.forest c.args.g.now) c.args.p.now _ c.in-Some.refusal c.in-Some.ensures

pub bounds-area-requires : goal.bounds-area-requires
bounds-area-requires g c = listed (g.G.Grove.forest c.args.g.now) c.args.p.now c.in-None.ensures

pub returns-in-None : goal.returns-in-None
returns-in-None g c =
    bounds_reply (g.G.Grove.forest c.args.g.now) c.args.p.now _ _ _ _ _ c.in-None.ensures c.bounds-area.ensures (omega (arith, ints)) (omega (arith, ints)) (omega (arith, ints)) (omega (arith, ints))
