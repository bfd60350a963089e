use Rattle.std.proofs.Common.{sym, ◌∙◌}
use Rattle.ax_query.proofs.Places.{listed}
use Rattle.ax_query.proofs.OnShown.{told_shown, told_ignored}
use Rattle.ax_query.proofs.refusal.unless_shown.Goals as goal

pub shown-requires : goal.shown-requires
shown-requires g c = listed (g.G.Grove.forest c.args.g.now) c.args.p.now (sym c.requires)

pub returns-then-shown : goal.returns-then-shown
returns-then-shown g c = told_shown (g.G.Grove.forest c.args.g.now) c.args.p.now c.requires (sym c.shown.ensures ∙ c.if-shown.true)

pub returns-else-shown : goal.returns-else-shown
returns-else-shown g c = told_ignored (g.G.Grove.forest c.args.g.now) c.args.p.now c.requires (sym c.shown.ensures ∙ c.if-shown.false)
