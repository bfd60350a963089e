use Rattle.std.proofs.Common.{◌∙◌}
use Rattle.ax_query.proofs.Marked.{up_told, up_refused}
use Rattle.ax_query.proofs.positions.up.Goals as goal

pub returns-in-Ok : goal.returns-in-Ok
returns-in-Ok g c = c.pos_or.ensures ∙ up_told (g.G.Grove.forest c.args.g.now) c.args.at.now c.in-Ok.form c.in-Ok.ensures

pub returns-in-Err : goal.returns-in-Err
returns-in-Err g c = c.refusal_reply.ensures ∙ up_refused (g.G.Grove.forest c.args.g.now) c.args.at.now c.in-Err.refusal c.in-Err.ensures
