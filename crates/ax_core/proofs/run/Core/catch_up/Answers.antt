use Rattle.std.proofs.Common.{true, false}
use Rattle.std.proofs.lemmas.Result.{err_from_is_err_and}
use Rattle.ax_core.specs.Finishing.{run_of}
use Rattle.ax_core.proofs.Hearing.{here, begins, follows, joins}
use Rattle.ax_core.proofs.Turning.{catching_begun, catching_onward, catching_halted, catching_ended, below, all_gone}
use Rattle.ax_core.proofs.run.Core.catch_up.Goals as goal

pub loop-at-init : goal.loop-at-init
loop-at-init g c = begins (λ ls. catching_begun (run_of c.args.self.now ls))

pub catch_up_at-requires : goal.catch_up_at-requires
catch_up_at-requires g c =
    below c.loop-at.at c.frame_count-at-end.result c.args.self.now c.loop-at.self c.frame_count-at-end.ensures.count (here c.loop-at.invariant).1.trees c.loop-at-test.true

pub loop-at-preserved : goal.loop-at-preserved
loop-at-preserved g c =
    joins {b = true} c.loop-at.invariant c.in_ok-catch_up_at.ensures
    (λ is js ks p q. catching_onward c.loop-at.at (run_of c.args.self.now is) (run_of c.loop-at.self js) (run_of c.catch_up_at.new.self ks)
    (below c.loop-at.at c.frame_count-at-end.result c.args.self.now c.loop-at.self c.frame_count-at-end.ensures.count p.trees c.loop-at-test.true) p q)

pub returns-in_err-catch_up_at : goal.returns-in_err-catch_up_at
returns-in_err-catch_up_at g c =
    let p = err_from_is_err_and c.from_residual.result c.from_residual.ensures.1 in
    rw (p.1)
    (joins {b = false} c.loop-at.invariant c.in_err-catch_up_at.ensures
    (λ is js ks p q. catching_halted c.loop-at.at (run_of c.args.self.now is) (run_of c.loop-at.self js) (run_of c.catch_up_at.new.self ks)
    (below c.loop-at.at c.frame_count-at-end.result c.args.self.now c.loop-at.self c.frame_count-at-end.ensures.count p.trees c.loop-at-test.true) p q))

pub returns : goal.returns
returns g c =
    follows c.loop-at.invariant
    (λ is js p. catching_ended c.loop-at.at (run_of c.args.self.now is) (run_of c.loop-at.self js)
    (all_gone c.loop-at.at c.frame_count-at-end.result c.args.self.now c.loop-at.self c.frame_count-at-end.ensures.count p.trees c.loop-at-test.false) p)
