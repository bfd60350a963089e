use Rattle.std.proofs.Common.{◌≡◌, [], map, take}
use Rattle.crossbeam_queue.specs.SegTies.{IsSegPassOf}
use Rattle.ax_lane.specs.Ends.{new_sender}
use Rattle.ax_lane.specs.Lanes.{taker}
use Rattle.ax_lane.proofs.lane.hire_all.Given as goal

abbrev pub invariant-loop-tree : goal.invariant-loop-tree
invariant-loop-tree l = record {
  queue : IsSegPassOf l.queue l.pass;
  view : l.pass.me.view.client ≡ taker [] (take l.tree-index l.trees) [];
  senders : l.senders.items ≡ map (new_sender l.queue) (take l.tree-index l.trees);
}
