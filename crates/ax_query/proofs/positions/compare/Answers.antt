use Rattle.std.proofs.Common.{◌∙◌}
use Rattle.ax_query.proofs.Marked.{order_told, order_refused}
use Rattle.ax_query.proofs.positions.compare.Goals as goal

pub returns-in-Ok : goal.returns-in-Ok
returns-in-Ok g c = order_told (g.G.Grove.forest c.args.g.now) c.args.at.now c.args.to.now c.in-Ok.order c.in-Ok.ensures

pub returns-in-Err : goal.returns-in-Err
returns-in-Err g c = c.refusal_reply.ensures ∙ order_refused (g.G.Grove.forest c.args.g.now) c.args.at.now c.args.to.now c.in-Err.refusal c.in-Err.ensures
