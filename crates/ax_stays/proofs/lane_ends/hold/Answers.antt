use Rattle.std.proofs.Common.{sym, ◌∙◌}
use Rattle.ax_stays.proofs.LaneMoves.{held_still, taken_now}
use Rattle.ax_stays.proofs.lane_ends.hold.Goals as goal

pub returns-then-is_some : goal.returns-then-is_some
returns-then-is_some g c = held_still c.args.held.now c.args.rx.now (sym c.is_some.ensures ∙ c.if-is_some.true)

pub returns : goal.returns
returns g c =
    taken_now c.args.held.now c.take.result c.args.rx.now c.take.new.rx (sym c.is_some.ensures ∙ c.if-is_some.false) c.take.ensures.got c.take.ensures.lulls c.take.ensures.known c.take.ensures.good
