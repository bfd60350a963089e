use Rattle.std.proofs.Common.{sym, ◌∙◌}
use Rattle.std.proofs.lemmas.Result.{IfOk-weaker}
use Rattle.ax_query.proofs.Marked.{text_told, text_refused, plain_refusal}
use Rattle.ax_query.proofs.positions.text.Goals as goal

pub returns-in-Ok : goal.returns-in-Ok
returns-in-Ok g c = text_told (g.G.Grove.forest c.args.g.now) c.args.at.now c.args.to.now c.in-Ok.text (sym c.in-Ok.ensures)

pub returns-in-Err : goal.returns-in-Err
returns-in-Err g c =
    IfOk-weaker c.text_refusal.result _ _ (λ reply q. q.0 ∙ text_refused (g.G.Grove.forest c.args.g.now) c.args.at.now c.args.to.now c.in-Err.refusal (plain_refusal c.in-Err.refusal _ q.1 c.in-Err.ensures)) c.text_refusal.ensures
