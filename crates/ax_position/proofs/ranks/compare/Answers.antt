use Rattle.std.proofs.Common.{ap, ◌∙◌}
use Rattle.std.specs.Prelude.{Ok}
use Rattle.ax_rules.specs.Stitched.{stitched}
use Rattle.ax_rules.specs.Positions.{mark, position_order}
use Rattle.ax_position.proofs.Asking.{both_told, both_refused}
use Rattle.ax_position.proofs.ranks.compare.Goals as goal

pub returns-in-Err : goal.returns-in-Err
returns-in-Err g c = both_refused (position_order (stitched (g.G.Grove.forest c.args.g.now))) _ _ c.in-Err.refusal c.in-Err.ensures.marks

pub returns-in-Ok : goal.returns-in-Ok
returns-in-Ok g c =
    let b = c.in-Ok.both in
    ap (λ o. Ok o) c.order.ensures
    ∙ both_told (position_order (stitched (g.G.Grove.forest c.args.g.now))) _ _ (mark b.one.place b.one.offset b.one.affinity) (mark b.other.place b.other.offset b.other.affinity) c.in-Ok.ensures.marks
