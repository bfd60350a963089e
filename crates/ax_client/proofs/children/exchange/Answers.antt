use Rattle.std.proofs.Common.{length, nat_eq, refl, ap, arith}
use Rattle.std.specs.HashMap.{get}
use Rattle.ax_client.proofs.Exchanging.{exchanged}
use Rattle.ax_client.proofs.Parts.{apart, come_short}
use Rattle.ax_client.proofs.children.exchange.Goals as goal

pub exchange_all-requires : goal.exchange_all-requires
exchange_all-requires c =
    let short = come_short c.in-Some.ensures in
    let same = ap length c.as_slice-in-Some.ensures in
    omega (arith, c.requires, short, same)

pub returns-in-Some-clause-at : goal.returns-in-Some-clause-at
returns-in-Some-clause-at c =
    exchanged (get nat_eq c.args.held.now) (get nat_eq c.exchange_all.new.held) c.args.over c.args.old.now c.args.new.now _ _ _ _ c.in-Some.ensures c.as_slice.ensures c.as_slice-in-Some.ensures c.exchange_all.ensures.at

pub returns-in-Some-clause-room : goal.returns-in-Some-clause-room
returns-in-Some-clause-room c =
    let short = come_short c.in-Some.ensures in
    let same = ap length c.as_slice-in-Some.ensures in
    omega (arith, c.exchange_all.ensures.room, short, same)

pub returns-in-None-clause-at : goal.returns-in-None-clause-at
returns-in-None-clause-at c =
    exchanged (get nat_eq c.args.held.now) (get nat_eq c.exchange_all-in-None.new.held) c.args.over c.args.old.now c.args.new.now _ _ _ _ (apart c.args.old.now c.args.new.now) refl refl c.exchange_all-in-None.ensures.at
