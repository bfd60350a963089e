use Rattle.std.proofs.Common.{◌∙◌}
use Rattle.ax_query.proofs.Marked.{offset_told, offset_refused}
use Rattle.ax_query.proofs.positions.offset.Goals as goal

pub returns-in-Ok : goal.returns-in-Ok
returns-in-Ok g c = offset_told (g.G.Grove.forest c.args.g.now) c.args.at.now c.in-Ok.offset c.in-Ok.ensures

pub returns-in-Err : goal.returns-in-Err
returns-in-Err g c = c.refusal_reply.ensures ∙ offset_refused (g.G.Grove.forest c.args.g.now) c.args.at.now c.in-Err.refusal c.in-Err.ensures
