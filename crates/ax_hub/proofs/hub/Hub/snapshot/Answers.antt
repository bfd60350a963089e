use Rattle.std.proofs.Common.{ap}
use Rattle.ax_hub.proofs.Ends.{still_for}
use Rattle.ax_hub.proofs.Readers.{reader_after, reader_begins, reader_of, reader_stays, snap_shown}
use Rattle.ax_hub.proofs.hub.Hub.snapshot.Goals as goal

pub look_in-requires-clause-turn : goal.look_in-requires-clause-turn
look_in-requires-clause-turn g c =
    let h = c.self.inside in let s = c.seat.inside in
    reader_of c.args.self.now h.frames.items h.forest h.lane c.self.view_is c.args.seat.now s.number s.seat c.seat.view_is c.requires

pub look_in-requires-clause-seat : goal.look_in-requires-clause-seat
look_in-requires-clause-seat g c = c.seat.invariant

-- ---- no memory in the turn

pub invariant_of-seat : goal.invariant_of-seat
invariant_of-seat g c = let s = c.seat.inside in still_for s.number s.seat c.look_in.new.seat c.look_in.ensures.seat c.seat.invariant

pub returns-in_err-look-clause-of : goal.returns-in_err-look-clause-of
returns-in_err-look-clause-of g c =
    let h = c.self.inside in let s = c.seat.inside in
    reader_stays c.args.self.now h.frames.items h.forest h.lane c.self.view_is c.args.seat.now s.number s.seat c.seat.view_is c.requires c.look_in.new.seat (ap (λ v. v.turn) c.look_in.ensures.seat)

pub returns-in_err-look-clause-seat : goal.returns-in_err-look-clause-seat
returns-in_err-look-clause-seat g c =
    let h = c.self.inside in let s = c.seat.inside in
    reader_after c.args.self.now h.frames.items h.forest h.lane c.self.view_is c.args.seat.now s.number s.seat c.seat.view_is c.requires c.look_in.new.seat c.look_in.ensures.seat

pub returns-in_err-look-clause-begins : goal.returns-in_err-look-clause-begins
returns-in_err-look-clause-begins g c =
    let h = c.self.inside in let s = c.seat.inside in
    reader_begins c.args.self.now h.frames.items h.forest h.lane c.self.view_is c.args.seat.now s.number s.seat c.seat.view_is c.requires c.look_in.new.seat c.look_in.ensures.begins

-- ---- a look

pub invariant_of-seat-2 : goal.invariant_of-seat-2
invariant_of-seat-2 g c = let s = c.seat.inside in still_for s.number s.seat c.look_in.new.seat c.look_in.ensures.seat c.seat.invariant

pub returns-clause-of : goal.returns-clause-of
returns-clause-of g c =
    let h = c.self.inside in let s = c.seat.inside in
    reader_stays c.args.self.now h.frames.items h.forest h.lane c.self.view_is c.args.seat.now s.number s.seat c.seat.view_is c.requires c.look_in.new.seat (ap (λ v. v.turn) c.look_in.ensures.seat)

pub returns-clause-snap : goal.returns-clause-snap
returns-clause-snap g c =
    let h = c.self.inside in let s = c.seat.inside in
    snap_shown c.args.self.now h.frames.items h.forest h.lane c.self.view_is c.args.seat.now s.number s.seat c.seat.view_is c.requires c.of.result c.in_ok-look.look c.look_in.new.seat c.of.ensures c.in_ok-look.ensures.look

pub returns-clause-seat : goal.returns-clause-seat
returns-clause-seat g c =
    let h = c.self.inside in let s = c.seat.inside in
    reader_after c.args.self.now h.frames.items h.forest h.lane c.self.view_is c.args.seat.now s.number s.seat c.seat.view_is c.requires c.look_in.new.seat c.look_in.ensures.seat

pub returns-clause-begins : goal.returns-clause-begins
returns-clause-begins g c =
    let h = c.self.inside in let s = c.seat.inside in
    reader_begins c.args.self.now h.frames.items h.forest h.lane c.self.view_is c.args.seat.now s.number s.seat c.seat.view_is c.requires c.look_in.new.seat c.look_in.ensures.begins
