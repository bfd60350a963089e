use Rattle.std.proofs.Common.{sym}
use Rattle.ax_query.proofs.OnShown.{told_refused}
use Rattle.ax_query.proofs.refusal.shown_refusal_at.Goals as goal

pub returns-in-Some-clause-refusal : goal.returns-in-Some-clause-refusal
returns-in-Some-clause-refusal g c = told_refused (g.G.Grove.forest c.args.g.now) c.args.p.now c.in-Some.refusal c.in-Some.ensures

pub unless_shown-requires : goal.unless_shown-requires
unless_shown-requires g c = sym c.in-None.ensures
