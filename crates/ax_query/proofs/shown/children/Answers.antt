use Rattle.ax_run_rules.specs.Replies.{answer_of}
use Rattle.ax_query.proofs.OnShown.{shown_refused, shown_listed, shown_there, children_reply}
use Rattle.ax_query.proofs.shown.children.Goals as goal

pub returns-in-Some : goal.returns-in-Some
unfolding answer_of
returns-in-Some g c = shown_refused (g.G.Grove.forest c.args.g.now) c.args.p.now _ c.in-Some.refusal c.in-Some.ensures.sound c.in-Some.ensures.refusal

pub children-requires : goal.children-requires
children-requires g c = record {
  there = shown_listed (g.G.Grove.forest c.args.g.now) c.args.p.now c.in-None.ensures.refusal;
  shown = shown_there (g.G.Grove.forest c.args.g.now) c.args.p.now c.in-None.ensures.refusal;
}

pub returns-in_ok-places-in-None : goal.returns-in_ok-places-in-None
returns-in_ok-places-in-None g c = children_reply (g.G.Grove.forest c.args.g.now) c.args.p.now c.in_ok-places-in-None.places c.in-None.ensures.sound c.in-None.ensures.refusal c.in_ok-places-in-None.ensures
