use Rattle.std.proofs.Common.{◌≡◌, ◌++◌, true, false, map}
use Rattle.crossbeam_queue.specs.SegTies.{IsSegPassOf}
use Rattle.ax_lane.specs.Ends.{back_of}
use Rattle.ax_lane.proofs.lane.take_back.Given as goal

abbrev pub invariant-loop-tx : goal.invariant-loop-tx
invariant-loop-tx l = record {
  queue : IsSegPassOf l.queue l.pass;
  takes : l.pass.me.view.client.takes ≡ true;
  idle : l.pass.me.view.client.sends ≡ false;
  got : l.pass.me.view.client.got ≡ l.initial.pass.me.view.client.got;
  trees : l.pass.me.view.client.trees ≡ l.initial.pass.me.view.client.trees;
  back : l.pass.me.view.client.back ≡ l.initial.pass.me.view.client.back ++ map back_of l.yielded;
}
