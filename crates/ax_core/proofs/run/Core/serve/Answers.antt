use Rattle.std.proofs.lemmas.Result.{err_from_is_err_and}
use Rattle.ax_core.specs.Finishing.{run_of}
use Rattle.std.proofs.Common.{true, false, arith}
use Rattle.ax_core.proofs.Hearing.{begins, follows, joins}
use Rattle.ax_core.proofs.Turning.{serving_begun, serving_onward, serving_halted, serving_ended}
use Rattle.ax_core.proofs.run.Core.serve.Goals as goal

pub loop-at-init : goal.loop-at-init
loop-at-init g c = begins (λ ls. serving_begun (run_of c.args.self.now ls))

pub loop-at-preserved : goal.loop-at-preserved
loop-at-preserved g c =
    joins {b = true} c.loop-at.invariant c.in_ok-serve_next.ensures
    (λ is js ks p q. serving_onward c.loop-at._at (run_of c.args.self.now is) (run_of c.loop-at.self js) (run_of c.serve_next.new.self ks)
    (let h = c.loop-at-test.true in let e = c.browser_count-at-end.ensures in omega (arith, h, e)) p q)

pub returns-in_err-serve_next : goal.returns-in_err-serve_next
returns-in_err-serve_next g c =
    let p = err_from_is_err_and c.from_residual.result c.from_residual.ensures.1 in
    rw (p.1)
    (joins {b = false} c.loop-at.invariant c.in_err-serve_next.ensures
    (λ is js ks p q. serving_halted c.loop-at._at (run_of c.args.self.now is) (run_of c.loop-at.self js) (run_of c.serve_next.new.self ks)
    (let h = c.loop-at-test.true in let e = c.browser_count-at-end.ensures in omega (arith, h, e)) p q))

pub returns : goal.returns
returns g c =
    follows c.loop-at.invariant
    (λ is js p. serving_ended c.loop-at._at (run_of c.args.self.now is) (run_of c.loop-at.self js) (let h = c.loop-at-test.false in let e = c.browser_count-at-end.ensures in omega (arith, h, e)) p)
