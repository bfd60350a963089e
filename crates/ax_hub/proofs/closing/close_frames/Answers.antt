use Rattle.std.proofs.Common.{arith, ap, map, sym, ◌∙◌}
use Rattle.ax_hub.proofs.Closed.{all_closed, closed_next, none_closed, popped_delivers, popped_makers, popped_told, popped_turn, some_seat, some_told}
use Rattle.ax_stays.proofs.Cuts.{cuts_in}
use Rattle.ax_hub.proofs.ListLemmas.{none_of}
use Rattle.ax_hub.proofs.closing.close_frames.Goals as goal

pub loop-turn-init : goal.loop-turn-init
loop-turn-init c = record {
  so_far = none_closed c.args.seats.items c.args.deliveries.items c.args.turns.items c.reverse.new.self.items c.reverse-2.new.self.items c.reverse-3.new.self.items c.new.result.items c.new-3.result.items c.new-4.result.items
      c.requires.turns c.requires.told c.requires.makers c.requires.delivers c.reverse.ensures.items c.reverse-2.ensures.items c.reverse-3.ensures.items c.new.ensures.items c.new-3.ensures.items c.new-4.ensures.items;
  made = c.new-2.ensures.items ∙ ap (map cuts_in) (sym c.new.ensures.items);
}

pub take_last-seat-requires : goal.take_last-seat-requires
take_last-seat-requires c =
    let l = c.loop-turn in
    some_seat c.args.seats.items c.args.deliveries.items l.turns.items c.pop.new.self.items l.seats.items l.seats.items l.deliveries.items l.deliveries.items l.closed.frames.items l.closed.senders.items l.closed.kept.items l.invariant.so_far
    c.in-Some.turn c.in-Some.ensures.items

pub take_last-other-requires : goal.take_last-other-requires
take_last-other-requires c =
    let l = c.loop-turn in
    some_told c.args.seats.items c.args.deliveries.items l.turns.items c.pop.new.self.items l.seats.items l.seats.items l.deliveries.items l.deliveries.items l.closed.frames.items l.closed.senders.items l.closed.kept.items l.invariant.so_far
    c.in-Some.turn c.in-Some.ensures.items

pub add_closed-requires-clause-makers : goal.add_closed-requires-clause-makers
add_closed-requires-clause-makers c =
    let l = c.loop-turn in
    popped_makers c.args.seats.items c.args.deliveries.items l.turns.items c.pop.new.self.items l.seats.items l.seats.items l.deliveries.items l.deliveries.items l.closed.frames.items l.closed.senders.items l.closed.kept.items l.invariant.so_far
    c.in-Some.turn c.in-Some.ensures.items

pub add_closed-requires-clause-turns : goal.add_closed-requires-clause-turns
add_closed-requires-clause-turns c =
    let l = c.loop-turn in (
      popped_turn c.args.seats.items c.args.deliveries.items l.turns.items c.pop.new.self.items l.seats.items c.take_last-seat.new.items.items l.deliveries.items c.take_last-other.new.items.items l.closed.frames.items l.closed.senders.items
          l.closed.kept.items l.invariant.so_far c.in-Some.turn c.in-Some.ensures.items c.take_last-seat.result c.take_last-other.result c.take_last-seat.ensures c.take_last-other.ensures,
      popped_told c.args.seats.items c.args.deliveries.items l.turns.items c.pop.new.self.items l.seats.items c.take_last-seat.new.items.items l.deliveries.items c.take_last-other.new.items.items l.closed.frames.items l.closed.senders.items
          l.closed.kept.items l.invariant.so_far c.in-Some.turn c.in-Some.ensures.items c.take_last-seat.result c.take_last-other.result c.take_last-seat.ensures c.take_last-other.ensures,
    )

pub add_closed-requires-clause-other : goal.add_closed-requires-clause-other
add_closed-requires-clause-other c =
    let l = c.loop-turn in
    popped_delivers c.args.seats.items c.args.deliveries.items l.turns.items c.pop.new.self.items l.seats.items c.take_last-seat.new.items.items l.deliveries.items c.take_last-other.new.items.items l.closed.frames.items l.closed.senders.items
    l.closed.kept.items l.invariant.so_far c.in-Some.turn c.in-Some.ensures.items c.take_last-seat.result c.take_last-other.result c.take_last-seat.ensures c.take_last-other.ensures

pub loop-turn-preserved : goal.loop-turn-preserved
loop-turn-preserved c =
    let l = c.loop-turn in
    record {
      so_far = closed_next c.args.seats.items c.args.deliveries.items l.turns.items c.pop.new.self.items l.seats.items c.take_last-seat.new.items.items l.deliveries.items c.take_last-other.new.items.items l.closed.frames.items l.closed.senders.items
          l.closed.kept.items l.invariant.so_far c.in-Some.turn c.in-Some.ensures.items c.take_last-seat.result c.take_last-other.result c.take_last-seat.ensures c.take_last-other.ensures
          c.add_closed.new.closed.frames.items c.add_closed.new.closed.senders.items c.add_closed.new.closed.kept.items c.in_ok-add_closed.ensures.closed c.in_ok-add_closed.ensures.kept;
      made = c.in_ok-add_closed.ensures.made l.invariant.made;
    }

pub returns-clause-closed : goal.returns-clause-closed
returns-clause-closed c =
    let l = c.loop-turn in
    (all_closed c.args.seats.items c.args.deliveries.items l.turns.items l.seats.items l.deliveries.items l.closed.frames.items l.closed.senders.items l.closed.kept.items l.invariant.so_far (none_of l.turns.items (let none = c.in_default.ensures.cases.0 in let same = l.turns.ok.0 in (omega (arith, none, same))))).0

pub returns-clause-kept : goal.returns-clause-kept
returns-clause-kept c =
    let l = c.loop-turn in
    (all_closed c.args.seats.items c.args.deliveries.items l.turns.items l.seats.items l.deliveries.items l.closed.frames.items l.closed.senders.items l.closed.kept.items l.invariant.so_far (none_of l.turns.items (let none = c.in_default.ensures.cases.0 in let same = l.turns.ok.0 in (omega (arith, none, same))))).1
