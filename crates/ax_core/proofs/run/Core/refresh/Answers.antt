use Rattle.std.proofs.Common.{[], is_ok}
use Rattle.std.proofs.lemmas.Result.{err_from_is_err_and}
use Rattle.ax_core.proofs.Hearing.{here}
use Rattle.ax_core.proofs.Turning.{item_at}
use Rattle.ax_core.proofs.Refreshing.{asked_first, delivered_second, halted_second, passed_third, halted_third, received_last, still_there}
use Rattle.ax_core.proofs.run.Core.refresh.Goals as goal

pub returns-in_err-delivery : goal.returns-in_err-delivery
returns-in_err-delivery g c =
    let p = err_from_is_err_and c.from_residual.result c.from_residual.ensures.1 in
    rw (p.1) (asked_first c.in_err-delivery.ensures.asked)

pub returns-in_err-tell_if : goal.returns-in_err-tell_if
returns-in_err-tell_if g c =
    let p = err_from_is_err_and c.from_residual-in_err-tell_if.result c.from_residual-in_err-tell_if.ensures.1 in
    rw (p.1) (halted_second c.in_ok-delivery.delivery c.requires.live c.in_ok-delivery.ensures.delivery c.in_ok-delivery.ensures.asked c.in_err-tell_if.ensures)

pub pass-requires : goal.pass-requires
pass-requires g c =
    let x = item_at c.args.self.now.frames c.args.at c.requires.place in
    let second = delivered_second c.in_ok-delivery.delivery c.requires.live c.in_ok-delivery.ensures.delivery c.in_ok-delivery.ensures.asked c.in_ok-tell_if.ensures in
    still_there c.args.at c.args.self.now c.tell_if.new.self [] (here second).0 c.requires.place x.0 ((here second).1 x.0 x.1)

pub returns-in_err-pass : goal.returns-in_err-pass
returns-in_err-pass g c =
    let p = err_from_is_err_and c.from_residual-in_err-pass.result c.from_residual-in_err-pass.ensures.1 in
    let second = delivered_second c.in_ok-delivery.delivery c.requires.live c.in_ok-delivery.ensures.delivery c.in_ok-delivery.ensures.asked c.in_ok-tell_if.ensures in
    rw (p.1) (halted_third c.requires.place second c.in_err-pass.ensures)

pub returns : goal.returns
returns g c =
    let second = delivered_second c.in_ok-delivery.delivery c.requires.live c.in_ok-delivery.ensures.delivery c.in_ok-delivery.ensures.asked c.in_ok-tell_if.ensures in
    let third = passed_third c.requires.place second c.in_ok-pass.ensures in
    received_last c.tree_at-tree.result (is_ok c.tell.result) c.tree_at-tree.ensures third c.tell.ensures
