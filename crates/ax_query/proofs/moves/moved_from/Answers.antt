use Rattle.std.proofs.Common.{sym, ap, ◌∙◌}
use Rattle.ax_rules.specs.Stitched.{stitched}
use Rattle.ax_run_rules.specs.Replies.{pos_or, at_end}
use Rattle.ax_query.proofs.Moving.{at_bound, at_none}
use Rattle.ax_query.proofs.moves.moved_from.Goals as goal

pub returns-in-Some-clause-reply : goal.returns-in-Some-clause-reply
returns-in-Some-clause-reply g c =
    c.pos_or.ensures
    ∙ (ap (λ r. pos_or r c.leaf_at.result) c.at_end.ensures
    ∙ ap (pos_or (at_end c.args.way))
    (at_bound (stitched (g.G.Grove.forest c.args.g.now)) c.args.unit c.args.way c.args.offset c.in-Some.bound c.leaf_at.result (sym c.in-Some.is ∙ c.in_ok-found.ensures.bound) c.leaf_at.ensures))

pub returns-in-None-clause-reply : goal.returns-in-None-clause-reply
returns-in-None-clause-reply g c =
    c.at_end-in-None.ensures
    ∙ ap (pos_or (at_end c.args.way)) (at_none (stitched (g.G.Grove.forest c.args.g.now)) c.args.unit c.args.way c.args.offset (sym c.in-None.is ∙ c.in_ok-found.ensures.bound))
