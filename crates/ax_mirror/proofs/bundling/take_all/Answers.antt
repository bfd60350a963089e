use Rattle.std.proofs.Common.{arith}
use Rattle.ax_mirror.proofs.Tracks.{costs_then}
use Rattle.ax_mirror.proofs.Bundles.{all_begin, all_next, all_only}
use Rattle.ax_mirror.proofs.Reached.{grow_next, grow_start, reach_last}
use Rattle.ax_mirror.proofs.bundling.take_all.Goals as goal

pub loop-at-init : goal.loop-at-init
loop-at-init g c = record { came = all_begin _ _ _; grown = grow_start _ _; cost = omega arith }

pub loop-at-preserved : goal.loop-at-preserved
loop-at-preserved g c = record {
  came = all_next _ _ c.loop-at.draft c.loop-at.about _ _ _ c.loop-at.at c.index-updates-at.result c.loop-at.invariant.came c.loop-at-test.true c.index-updates-at.is c.in-Ok.ensures.ok c.in-Ok.ensures.tracked c.in-Ok.ensures.only;
  grown = grow_next _ c.loop-at.at c.index-updates-at.result _ c.loop-at.draft _ c.loop-at-test.true c.index-updates-at.is c.loop-at.invariant.grown c.in-Ok.ensures.accounts;
  cost = costs_then _ _ _ _ _ _ c.loop-at.invariant.cost c.in-Ok.ensures.cost;
}

pub returns-clause-only : goal.returns-clause-only
returns-clause-only g c = all_only c.args.draft.now c.args.about.now c.loop-at.draft c.loop-at.about c.args.updates.now c.loop-at.at c.loop-at.invariant.came

pub returns-in-Err-clause-reach : goal.returns-in-Err-clause-reach
returns-in-Err-clause-reach g c =
    reach_last _ c.loop-at.at c.index-updates-at.result _ c.loop-at.draft _ _ _ _ c.loop-at-test.true c.index-updates-at.is c.loop-at.invariant.grown c.loop-at.invariant.cost c.in-Err.ensures.reach

pub returns-in-Err-clause-once : goal.returns-in-Err-clause-once
returns-in-Err-clause-once g c = c.as_slice-touched.ensures.once
