use Rattle.std.proofs.Common.{true, false}
use Rattle.std.proofs.lemmas.Result.{err_from_is_err_and}
use Rattle.ax_run_rules.specs.Finale.{ops_left}
use Rattle.ax_core.specs.Finishing.{run_of, Turns, frame_turn, ops_of}
use Rattle.ax_core.proofs.Hearing.{here, begins, follows, joins}
use Rattle.ax_core.proofs.Turning.{goes_begun, goes_onward, goes_halted, goes_ended, below, all_gone, frame_moved, ops_are}
use Rattle.ax_core.proofs.run.Core.do_operations.Goals as goal

pub loop-at-init : goal.loop-at-init
loop-at-init g c = begins (λ ls. goes_begun frame_turn ops_of (ops_left c.args.self.now) (run_of c.args.self.now ls) (ops_are c.args.self.now))

pub do_operations_at-requires : goal.do_operations_at-requires
do_operations_at-requires g c =
    below c.loop-at.at c.frame_count-at-end.result c.args.self.now c.loop-at.self c.frame_count-at-end.ensures.count (here c.loop-at.invariant).1.trees c.loop-at-test.true

pub loop-at-preserved : goal.loop-at-preserved
loop-at-preserved g c =
    joins {b = true} c.loop-at.invariant c.in_ok-do_operations_at.ensures
    (λ is js ks p q. goes_onward frame_turn ops_of frame_moved c.loop-at.at (Turns (ops_left c.args.self.now)) (run_of c.args.self.now is) (run_of c.loop-at.self js) (run_of c.do_operations_at.new.self ks) c.frame_count-at-end.ensures.apart
    (below c.loop-at.at c.frame_count-at-end.result c.args.self.now c.loop-at.self c.frame_count-at-end.ensures.count p.trees c.loop-at-test.true) p q)

pub returns-in_err-do_operations_at : goal.returns-in_err-do_operations_at
returns-in_err-do_operations_at g c =
    let p = err_from_is_err_and c.from_residual.result c.from_residual.ensures.1 in
    rw (p.1)
    (joins {b = false} c.loop-at.invariant c.in_err-do_operations_at.ensures
    (λ is js ks p q. goes_halted frame_turn ops_of c.loop-at.at (Turns (ops_left c.args.self.now)) (run_of c.args.self.now is) (run_of c.loop-at.self js) (run_of c.do_operations_at.new.self ks)
    (below c.loop-at.at c.frame_count-at-end.result c.args.self.now c.loop-at.self c.frame_count-at-end.ensures.count p.trees c.loop-at-test.true) p q))

pub returns : goal.returns
returns g c =
    follows c.loop-at.invariant
    (λ is js p. goes_ended frame_turn ops_of c.loop-at.at (Turns (ops_left c.args.self.now)) (run_of c.args.self.now is) (run_of c.loop-at.self js)
    (all_gone c.loop-at.at c.frame_count-at-end.result c.args.self.now c.loop-at.self c.frame_count-at-end.ensures.count p.trees c.loop-at-test.false) p)
