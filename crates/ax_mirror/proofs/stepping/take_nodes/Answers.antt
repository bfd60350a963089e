use Rattle.std.proofs.Common.{arith}
use Rattle.ax_mirror.proofs.Tracks.{track_start, track_then, made_start, made_then, costs_then}
use Rattle.ax_mirror.proofs.Runs.{run_begins, run_next, run_stops, run_ends}
use Rattle.ax_mirror.proofs.Accounts.{acc_start, acc_then, acc_node}
use Rattle.ax_mirror.proofs.Reached.{grows, named_here, reach_then, reach_wide}
use Rattle.ax_mirror.proofs.stepping.take_nodes.Goals as goal

pub loop-node-init : goal.loop-node-init
loop-node-init g c = record { came = run_begins _ _; made = made_start _; tracked = track_start _; accounts = acc_start _ _ _; cost = omega arith }

pub loop-node-preserved : goal.loop-node-preserved
loop-node-preserved g c = record {
  came = run_next _ c.loop-node.draft _ _ c.loop-node.node-index c.node-item.result c.loop-node.invariant.came c.loop-node-test.true c.node-item.is c.in-Ok.ensures.ok;
  made = made_then _ c.loop-node.draft _ c.loop-node.invariant.made c.in-Ok.ensures.made;
  tracked = track_then _ c.loop-node.draft _ c.loop-node.invariant.tracked c.in-Ok.ensures.tracked;
  accounts = acc_then _ _ _ c.loop-node.draft _ c.loop-node.invariant.accounts
      (acc_node c.loop-node.draft _ c.args.nodes.now c.loop-node.node-index c.node-item.result c.loop-node-test.true c.node-item.is c.in-Ok.ensures.accounts);
  cost = costs_then _ _ _ _ _ _ c.loop-node.invariant.cost c.in-Ok.ensures.cost;
}

pub returns-in-Err-clause-err : goal.returns-in-Err-clause-err
returns-in-Err-clause-err g c =
    run_stops _ _ _ c.loop-node.node-index c.node-item.result c.in-Err.refusal c.loop-node.invariant.came c.loop-node-test.true c.node-item.is c.in-Err.ensures.err

pub returns-clause-ok : goal.returns-clause-ok
returns-clause-ok g c = run_ends _ _ _ c.loop-node.node-index c.loop-node.invariant.came c.loop-node-test.false

pub returns-clause-made : goal.returns-clause-made
returns-clause-made g c = c.loop-node.invariant.made

pub returns-clause-tracked : goal.returns-clause-tracked
returns-clause-tracked g c = c.loop-node.invariant.tracked

pub returns-clause-cost : goal.returns-clause-cost
returns-clause-cost g c = c.loop-node.invariant.cost

pub returns-clause-accounts : goal.returns-clause-accounts
returns-clause-accounts g c = c.loop-node.invariant.accounts

pub returns-in-Err-clause-reach : goal.returns-in-Err-clause-reach
returns-in-Err-clause-reach g c =
    reach_then _ _ c.loop-node.draft _ _ _ _ (grows _ _ _ c.loop-node.draft c.loop-node.invariant.accounts) c.loop-node.invariant.cost
    (reach_wide _ _ c.loop-node.draft _ _ _ (named_here c.args.nodes.now c.loop-node.node-index c.node-item.result c.loop-node-test.true c.node-item.is) c.in-Err.ensures.reach)
