use Rattle.std.proofs.lemmas.Result.{err_from_is_err_and}
use Rattle.std.proofs.Common.{true, false, arith}
use Rattle.ax_run_rules.specs.Finale.{queries_left}
use Rattle.ax_core.specs.Finishing.{run_of, Turns}
use Rattle.ax_core.proofs.Hearing.{here, begins, follows, joins}
use Rattle.ax_core.proofs.Turning.{asked_begun, asked_onward, asked_halted, asked_ended}
use Rattle.ax_core.proofs.run.Core.answer_queries.Goals as goal

pub loop-at-init : goal.loop-at-init
loop-at-init g c = begins (λ ls. asked_begun (run_of c.args.self.now ls))

pub answer_queries_at-requires : goal.answer_queries_at-requires
answer_queries_at-requires g c = let h = c.loop-at-test.true in let e = c.reader_count-at-end.ensures in let k = (here c.loop-at.invariant).1.many in omega (arith, h, e, k)

pub loop-at-preserved : goal.loop-at-preserved
loop-at-preserved g c =
    joins {b = true} c.loop-at.invariant c.in_ok-answer_queries_at.ensures
    (λ is js ks p q. asked_onward c.loop-at.at (Turns (queries_left c.args.self.now)) (run_of c.args.self.now is) (run_of c.loop-at.self js) (run_of c.answer_queries_at.new.self ks)
    (let h = c.loop-at-test.true in let e = c.reader_count-at-end.ensures in let k = p.many in omega (arith, h, e, k)) p q)

pub returns-in_err-answer_queries_at : goal.returns-in_err-answer_queries_at
returns-in_err-answer_queries_at g c =
    let p = err_from_is_err_and c.from_residual.result c.from_residual.ensures.1 in
    rw (p.1)
    (joins {b = false} c.loop-at.invariant c.in_err-answer_queries_at.ensures
    (λ is js ks p q. asked_halted c.loop-at.at (Turns (queries_left c.args.self.now)) (run_of c.args.self.now is) (run_of c.loop-at.self js) (run_of c.answer_queries_at.new.self ks)
    (let h = c.loop-at-test.true in let e = c.reader_count-at-end.ensures in let k = p.many in omega (arith, h, e, k)) p q))

pub returns : goal.returns
returns g c =
    follows c.loop-at.invariant
    (λ is js p. asked_ended c.loop-at.at (Turns (queries_left c.args.self.now)) (run_of c.args.self.now is) (run_of c.loop-at.self js)
    (let h = c.loop-at-test.false in let e = c.reader_count-at-end.ensures in let k = p.many in omega (arith, h, e, k)) p)
