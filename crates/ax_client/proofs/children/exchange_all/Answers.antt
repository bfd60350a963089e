use Rattle.std.proofs.Common.{nat_eq, arith}
use Rattle.std.specs.HashMap.{get}
use Rattle.ax_client.proofs.Exchanging.{in_turn}
use Rattle.ax_client.proofs.children.exchange_all.Goals as goal

pub tie-requires : goal.tie-requires
tie-requires c = omega (arith, c.requires, c.untie.ensures.room, c.take_tied.ensures.room)

pub returns-clause-at : goal.returns-clause-at
returns-clause-at c =
    in_turn (get nat_eq c.args.held.now) (get nat_eq c.untie.new.held) (get nat_eq c.take_tied.new.held) (get nat_eq c.tie.new.held) c.args.over c.args.listed.now c.args.gone.now c.untie.ensures.at c.take_tied.ensures.out c.tie.ensures.at

pub returns-clause-room : goal.returns-clause-room
returns-clause-room c = omega (arith, c.untie.ensures.room, c.take_tied.ensures.room, c.tie.ensures.room)
