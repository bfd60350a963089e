use Rattle.std.proofs.Common.{rules}
use Rattle.ax_turn.proofs.Steps.{releases}
use Rattle.ax_turn.proofs.turn.Turn.leave.Goals as goal

pub store-requires : goal.store-requires
store-requires g c = (search rules, search rules, releases _ _ _ _ _ _ _ _ c.seat.inside.place.me.0 c.args.value (search rules) (search rules) (search rules) (search rules) (search rules) (search rules) (search rules) (search rules))
