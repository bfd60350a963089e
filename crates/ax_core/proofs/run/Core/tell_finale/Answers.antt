use Rattle.std.proofs.lemmas.Result.{err_from_is_err_and}
use Rattle.ax_core.proofs.Finished.{stopped_1, stopped_2, stopped_3, stopped_4, stopped_5, finished, whole}
use Rattle.ax_core.proofs.run.Core.tell_finale.Goals as goal

pub returns-in_err-do_operations-clause-stopped : goal.returns-in_err-do_operations-clause-stopped
returns-in_err-do_operations-clause-stopped g c =
    let p = err_from_is_err_and c.from_residual.result c.from_residual.ensures.1 in
    rw (p.1) (stopped_1 c.in_err-do_operations.ensures)

pub returns-in_err-receive_packets-clause-stopped : goal.returns-in_err-receive_packets-clause-stopped
returns-in_err-receive_packets-clause-stopped g c =
    let p = err_from_is_err_and c.from_residual-in_err-receive_packets.result c.from_residual-in_err-receive_packets.ensures.1 in
    rw (p.1) (stopped_2 c.in_ok-do_operations.ensures c.in_err-receive_packets.ensures)

pub returns-in_err-serve-clause-stopped : goal.returns-in_err-serve-clause-stopped
returns-in_err-serve-clause-stopped g c =
    let p = err_from_is_err_and c.from_residual-in_err-serve.result c.from_residual-in_err-serve.ensures.1 in
    rw (p.1) (stopped_3 c.in_ok-do_operations.ensures c.in_ok-receive_packets.ensures c.in_err-serve.ensures)

pub returns-in_err-catch_up-clause-stopped : goal.returns-in_err-catch_up-clause-stopped
returns-in_err-catch_up-clause-stopped g c =
    let p = err_from_is_err_and c.from_residual-in_err-catch_up.result c.from_residual-in_err-catch_up.ensures.1 in
    rw (p.1) (stopped_4 c.in_ok-do_operations.ensures c.in_ok-receive_packets.ensures c.in_ok-serve.ensures c.in_err-catch_up.ensures)

pub returns-in_err-answer_queries-clause-stopped : goal.returns-in_err-answer_queries-clause-stopped
returns-in_err-answer_queries-clause-stopped g c =
    let p = err_from_is_err_and c.from_residual-in_err-answer_queries.result c.from_residual-in_err-answer_queries.ensures.1 in
    rw (p.1) (stopped_5 c.in_ok-do_operations.ensures c.in_ok-receive_packets.ensures c.in_ok-serve.ensures c.in_ok-catch_up.ensures c.in_err-answer_queries.ensures)

pub returns-clause-done : goal.returns-clause-done
returns-clause-done g c = finished c.in_ok-do_operations.ensures c.in_ok-receive_packets.ensures c.in_ok-serve.ensures c.in_ok-catch_up.ensures c.in_ok-answer_queries.ensures

pub returns-clause-whole : goal.returns-clause-whole
returns-clause-whole g c = whole (finished c.in_ok-do_operations.ensures c.in_ok-receive_packets.ensures c.in_ok-serve.ensures c.in_ok-catch_up.ensures c.in_ok-answer_queries.ensures)
