use Rattle.std.proofs.Common.{sym, ◌∙◌}
use Rattle.ax_position.proofs.Marking.{there_told, position_refused, position_there, null_refused}
use Rattle.ax_position.proofs.marked.place_of.Goals as goal

pub returns-in-None-clause-refused : goal.returns-in-None-clause-refused
returns-in-None-clause-refused g c = null_refused (g.G.Grove.forest c.args.g.now) c.args.p.now (sym c.place_in.ensures ∙ c.in-None.is)

pub returns-in-Some-place_refusal-clause-refused : goal.returns-in-Some-place_refusal-clause-refused
returns-in-Some-place_refusal-clause-refused g c =
    position_refused (g.G.Grove.forest c.args.g.now) c.args.p.now c.in-Some.place c.in-Some-place_refusal.refusal (sym c.place_in.ensures ∙ c.in-Some.is) (sym c.in-Some-place_refusal.is ∙ c.place_refusal.ensures)

pub returns-in-None-place_refusal-clause-there : goal.returns-in-None-place_refusal-clause-there
returns-in-None-place_refusal-clause-there g c = there_told (g.G.Grove.forest c.args.g.now) c.in-Some.place (sym c.in-None-place_refusal.is ∙ c.place_refusal.ensures)

pub returns-in-None-place_refusal-clause-mark : goal.returns-in-None-place_refusal-clause-mark
returns-in-None-place_refusal-clause-mark g c =
    position_there (g.G.Grove.forest c.args.g.now) c.args.p.now c.in-Some.place (sym c.place_in.ensures ∙ c.in-Some.is) (sym c.in-None-place_refusal.is ∙ c.place_refusal.ensures)
