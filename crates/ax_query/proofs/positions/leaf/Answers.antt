use Rattle.std.proofs.Common.{◌∙◌}
use Rattle.ax_query.proofs.Marked.{leaf_told, leaf_refused}
use Rattle.ax_query.proofs.positions.leaf.Goals as goal

pub returns-in-Ok : goal.returns-in-Ok
returns-in-Ok g c = leaf_told (g.G.Grove.forest c.args.g.now) c.args.at.now c.in-Ok.form c.in-Ok.ensures.form

pub returns-in-Err : goal.returns-in-Err
returns-in-Err g c = c.refusal_reply.ensures ∙ leaf_refused (g.G.Grove.forest c.args.g.now) c.args.at.now c.in-Err.refusal c.in-Err.ensures.form
