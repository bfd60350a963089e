use Rattle.std.proofs.Common.{◌∙◌}
use Rattle.std.proofs.lemmas.Result.{IfOk-weaker}
use Rattle.ax_query.proofs.Moving.{move_told, move_refused}
use Rattle.ax_query.proofs.moves.moved.Goals as goal

pub returns-in-Ok-clause-reply : goal.returns-in-Ok-clause-reply
returns-in-Ok-clause-reply g c =
    IfOk-weaker c.moved_from.result _ _ (λ reply e. e ∙ move_told (g.G.Grove.forest c.args.g.now) c.args.at.now c.args.unit c.args.way c.in-Ok.offset c.in-Ok.ensures) c.moved_from.ensures.reply

pub returns-in-Err-clause-reply : goal.returns-in-Err-clause-reply
returns-in-Err-clause-reply g c = c.refusal_reply.ensures ∙ move_refused (g.G.Grove.forest c.args.g.now) c.args.at.now c.args.unit c.args.way c.in-Err.refusal c.in-Err.ensures
