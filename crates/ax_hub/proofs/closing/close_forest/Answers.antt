use Rattle.std.proofs.Common.{arith}
use Rattle.ax_hub.proofs.ListLemmas.{none_of}
use Rattle.ax_hub.proofs.Readers.{all_read, none_read, read_next, reader_number, reader_turn}
use Rattle.ax_hub.proofs.closing.close_forest.Goals as goal

pub loop-reader-init : goal.loop-reader-init
loop-reader-init c = none_read c.args.readers.items c.reverse.new.self.items c.args.turn c.args.seat c.reverse.ensures.items c.requires.turn c.requires.seat c.requires.readers

pub join_reader-requires-clause-turns : goal.join_reader-requires-clause-turns
join_reader-requires-clause-turns c =
    let l = c.loop-reader in (l.invariant.turned, reader_turn c.args.readers.items c.args.turn c.args.seat.seen l.readers.items c.pop.new.self.items l.seat l.invariant c.in-Some.reader c.in-Some.ensures.items)

pub join_reader-requires-clause-seat : goal.join_reader-requires-clause-seat
join_reader-requires-clause-seat c =
    let l = c.loop-reader in
    (l.invariant.idle, l.invariant.low, reader_number c.args.readers.items c.args.turn c.args.seat.seen l.readers.items c.pop.new.self.items l.seat l.invariant c.in-Some.reader c.in-Some.ensures.items)

pub loop-reader-preserved : goal.loop-reader-preserved
loop-reader-preserved c =
    let l = c.loop-reader in
    read_next c.args.readers.items c.args.turn c.args.seat.seen l.readers.items c.pop.new.self.items l.seat l.invariant c.in-Some.reader c.in-Some.ensures.items c.join_reader.new.seat c.join_reader.ensures.seat c.join_reader.ensures.history

pub returns-clause-readers : goal.returns-clause-readers
returns-clause-readers c =
    let l = c.loop-reader in
    (all_read c.args.readers.items c.args.turn c.args.seat.seen l.readers.items l.seat l.invariant (none_of l.readers.items (let none = c.in_default.ensures.cases.0 in let same = l.readers.ok.0 in (omega (arith, none, same))))).1
