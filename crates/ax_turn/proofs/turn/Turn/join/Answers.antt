use Rattle.std.proofs.Common.{rules}
use Rattle.ax_turn.proofs.Ends.{beside_of}
use Rattle.ax_turn.proofs.Steps.{joins, learns}
use Rattle.ax_turn.proofs.turn.Turn.join.Goals as goal

pub join_seat-requires : goal.join_seat-requires
join_seat-requires g c =
    (search rules, search rules, search rules, search rules, joins _ _ _ _ _ _ _ _ _ (search rules) (search rules) (beside_of c.seat.inside.place c.other.inside.place c.args.seat.now c.args.other c.seat.view_is c.other.view_is c.requires.beside))

pub load-requires : goal.load-requires
load-requires g c = (search rules, search rules, learns _ _ _ _ _ _ _ _ (search rules))
