use Rattle.std.proofs.Common.{true, false, is_ok, sym, refl}
use Rattle.ax_core.specs.Finishing.{run_of}
use Rattle.ax_core.proofs.Hearing.{begins, follows}
use Rattle.ax_core.proofs.Telling.{found_at_place, live_behind}
use Rattle.ax_core.proofs.Refreshing.{catches}
use Rattle.ax_core.proofs.run.Core.catch_up_at.Goals as goal

pub refresh-requires-clause-live : goal.refresh-requires-clause-live
refresh-requires-clause-live g c f h = live_behind c.args.self.now f (sym (c.if-is_behind.ensures.behind f h))

pub returns-then-is_behind : goal.returns-then-is_behind
returns-then-is_behind g c =
    follows c.refresh.ensures
    (λ is js q f h. catches f (is_ok c.refresh.result) true (run_of c.args.self.now is) (run_of c.refresh.new.self js) (found_at_place c.args.self.now c.args.at f c.if-is_behind.ensures.apart h)
    (c.if-is_behind.ensures.behind f h) (q f h))

pub returns-else-is_behind : goal.returns-else-is_behind
returns-else-is_behind g c =
    begins
    (λ ls f h. catches f true false (run_of c.args.self.now ls) (run_of c.args.self.now ls) (found_at_place c.args.self.now c.args.at f c.if-is_behind.ensures.apart h) (c.if-is_behind.ensures.behind f h) refl)
