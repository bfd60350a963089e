use Rattle.ax_hub.proofs.Opened.{all_frames, frames_next, no_frames, sender_new, some_sender}
use Rattle.ax_hub.proofs.opening.frame_side.Goals as goal

pub loop-tree-init : goal.loop-tree-init
loop-tree-init c =
    no_frames c.args.lane.now c.args.trees.now c.new.result.items c.new-2.result.items c.new-3.result.items c.reverse.new.self.items c.args.senders.items c.new.ensures.items c.new-2.ensures.items c.new-3.ensures.items c.reverse.ensures.items c.requires

pub take_last-tx-requires : goal.take_last-tx-requires
take_last-tx-requires c =
    let l = c.loop-tree in
    some_sender c.args.lane.now c.args.trees.now l.tree-index c.tree-item.result l.side.turns.items l.side.seats.items l.side.deliveries.items l.senders.items c.loop-tree-test.true c.tree-item.is l.invariant

pub add_frame-requires : goal.add_frame-requires
add_frame-requires c =
    let l = c.loop-tree in
    sender_new c.args.lane.now c.args.trees.now l.tree-index c.tree-item.result l.side.turns.items l.side.seats.items l.side.deliveries.items l.senders.items c.loop-tree-test.true c.tree-item.is l.invariant
    c.take_last-tx.new.items.items c.take_last-tx.result c.take_last-tx.ensures

pub loop-tree-preserved : goal.loop-tree-preserved
loop-tree-preserved c =
    let l = c.loop-tree in
    frames_next c.args.lane.now c.args.trees.now l.tree-index c.tree-item.result l.side.turns.items l.side.seats.items l.side.deliveries.items l.senders.items c.loop-tree-test.true c.tree-item.is l.invariant
    c.take_last-tx.new.items.items c.take_last-tx.result c.take_last-tx.ensures c.add_frame.new.side.turns.items c.add_frame.new.side.seats.items c.add_frame.new.side.deliveries.items c.in_ok-add_frame.ensures

pub returns-clause-seats : goal.returns-clause-seats
returns-clause-seats c =
    let l = c.loop-tree in all_frames c.args.lane.now c.args.trees.now l.tree-index l.side.turns.items l.side.seats.items l.side.deliveries.items l.senders.items c.loop-tree-test.false l.invariant

pub returns-clause-deliveries : goal.returns-clause-deliveries
returns-clause-deliveries c = c.loop-tree.invariant.delivers
