use Rattle.std.proofs.Common.{sym, arith}
use Rattle.ax_core.proofs.Scripted.{seat_within, put_done, put_nowhere}
use Rattle.ax_core.proofs.resuming.put_packet.Goals as goal

pub index_mut-requires : goal.index_mut-requires
index_mut-requires c =
    let low = seat_within c.args.places.now c.args.seats.now.items c.args.packet.tree c.in-Some.at c.requires.places c.in-Some.ensures in
    omega (arith, low, c.args.seats.now.ok.0)

pub returns-in-Some : goal.returns-in-Some
returns-in-Some c = record {
  put = put_done c.put.result c.args.packet c.args.places.now c.args.seats.now.items c.in-Some.at c.index_mut.result.now c.put.new.self c.requires.places c.requires.apart c.in-Some.ensures c.index_mut.ensures.value c.put.ensures.ok;
}

pub returns-in-None : goal.returns-in-None
returns-in-None c = record { put = put_nowhere c.args.packet c.args.places.now c.args.seats.now.items c.requires.places (sym c.in-None.ensures) }
