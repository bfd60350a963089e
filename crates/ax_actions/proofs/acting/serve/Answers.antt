use Rattle.std.proofs.Common.{refl, ◌∙◌}
use Rattle.ax_actions.proofs.ActingLemmas.{serving_begins, serving_on, serving_ends}
use Rattle.ax_actions.proofs.acting.serve.Goals as goal

pub loop-init : goal.loop-init
loop-init g c = record { table = refl; serving = serving_begins c.args.by.now.taken c.args.acted.now }

pub loop-preserved : goal.loop-preserved
loop-preserved g c = record {
  table = c.take_one.ensures.table ∙ c.loop.invariant.table;
  serving = serving_on _ _ c.loop.by.taken c.take_one.new.by.taken c.loop.acted c.take_one.new.acted c.in_ok-last.last c.loop.invariant.serving c.in_ok-last.ensures.took c.if-last.false;
}

pub returns-then-last-clause-served : goal.returns-then-last-clause-served
returns-then-last-clause-served g c = serving_ends _ _ c.loop.by.taken c.take_one.new.by.taken c.loop.acted c.take_one.new.acted c.in_ok-last.last c.loop.invariant.serving c.in_ok-last.ensures.took c.if-last.true
