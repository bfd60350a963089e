use Rattle.std.proofs.lemmas.Result.{err_from_is_err_and}
use Rattle.std.proofs.Common.{true, false, arith}
use Rattle.ax_core.specs.Finishing.{run_of}
use Rattle.ax_core.proofs.Hearing.{begins, follows, joins}
use Rattle.ax_core.proofs.Turning.{repeats_begun, repeats_onward, repeats_halted, repeats_ended}
use Rattle.ax_core.proofs.run.Core.tell_times.Goals as goal

pub loop-at-init : goal.loop-at-init
loop-at-init g c = begins (λ ls. repeats_begun c.args.times c.args.item.now (run_of c.args.self.now ls))

pub loop-at-preserved : goal.loop-at-preserved
loop-at-preserved g c =
    joins {b = true} c.loop-at.invariant c.in_ok-tell.ensures
    (λ is js ks p q. repeats_onward c.args.times c.loop-at._at c.args.item.now (run_of c.args.self.now is) (run_of c.loop-at.self js) (run_of c.tell.new.self ks) (omega arith) p q)

pub returns-in_err-tell : goal.returns-in_err-tell
returns-in_err-tell g c =
    let p = err_from_is_err_and c.from_residual.result c.from_residual.ensures.1 in
    rw (p.1)
    (joins {b = false} c.loop-at.invariant c.in_err-tell.ensures
    (λ is js ks p q. repeats_halted c.args.times c.loop-at._at c.args.item.now (run_of c.args.self.now is) (run_of c.loop-at.self js) (run_of c.tell.new.self ks) (omega arith) p q))

pub returns : goal.returns
returns g c =
    follows c.loop-at.invariant (λ is js p. repeats_ended c.args.times c.loop-at._at c.args.item.now (run_of c.args.self.now is) (run_of c.loop-at.self js) (omega arith) (omega arith) p)
