use Rattle.std.proofs.Common.{Some, refl, sym}
use Rattle.ax_stays.proofs.LaneMoves.{none_sent, parcel_kept, parcel_sent}
use Rattle.ax_stays.proofs.lane_ends.send_kept.Goals as goal

pub send-requires-clause-tree : goal.send-requires-clause-tree
send-requires-clause-tree g c = (c.requires.next c.in-Some.parcel (sym c.in-Some.ensures.value)).0

pub send-requires-clause-good : goal.send-requires-clause-good
send-requires-clause-good g c = (c.requires.next c.in-Some.parcel (sym c.in-Some.ensures.value)).1

pub returns-in-None : goal.returns-in-None
returns-in-None g c = none_sent c.args.kept.now c.take.new.self c.args.tx.now (sym c.in-None.ensures.value) c.take.ensures.after

pub returns-in-Ok : goal.returns-in-Ok
returns-in-Ok g c =
    parcel_sent c.args.kept.now c.in-Some.parcel c.args.tx.now c.send.new.tx c.in-Ok.ensures.0 _ c.take.new.self (sym c.in-Some.ensures.value) refl c.take.ensures.after c.in-Ok.ensures.1

pub returns-in-Err : goal.returns-in-Err
returns-in-Err g c =
    parcel_kept c.args.kept.now c.in-Some.parcel c.args.tx.now c.send.new.tx _ _ (sym c.in-Some.ensures.value) (λ i. Some (record { packet = c.in-Err.ensures.0 i; note = c.in-Some.parcel.note })) c.in-Err.ensures.1
