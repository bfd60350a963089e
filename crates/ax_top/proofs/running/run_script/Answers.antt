use Rattle.std.proofs.Common.{◌∙◌}
use Rattle.ax_top.proofs.Runs.{can_run, whole_runs, missing_runs, are_done, is_missing}
use Rattle.ax_top.proofs.running.run_script.Goals as goal

pub new-requires : goal.new-requires
new-requires c = can_run c.args.script _ c.requires c.take_order-order.ensures.rest

pub put_finale-requires : goal.put_finale-requires
put_finale-requires c = (are_done c.in_ok-core.core c.put_order.new.core c.as_slice.result.now c.new-text.result.items c.put_order.new.out.items _ c.in_ok-missing.ensures c.in-None.is).whole

pub returns-in-Some : goal.returns-in-Some
returns-in-Some c =
    missing_runs c.args.script _ c.as_slice.result.now c.in_ok-core.core c.in-Some.number c.take_order-order.ensures.rest c.in_ok-core.ensures.state (c.as_slice.ensures ∙ c.take_order-order.ensures.order)
    (is_missing c.in_ok-core.core c.put_order.new.core c.as_slice.result.now c.new-text.result.items c.put_order.new.out.items _ c.in-Some.number c.in_ok-missing.ensures c.in-Some.is)

pub returns : goal.returns
returns c =
    whole_runs c.args.script _ c.as_slice.result.now c.in_ok-core.core c.put_order.new.core c.put_finale.new.core c.new-text.result.items c.put_order.new.out.items c.put_finale.new.out.items c.take_order-order.ensures.rest c.in_ok-core.ensures.state
    (c.as_slice.ensures ∙ c.take_order-order.ensures.order) c.new-text.ensures.items
    (are_done c.in_ok-core.core c.put_order.new.core c.as_slice.result.now c.new-text.result.items c.put_order.new.out.items _ c.in_ok-missing.ensures c.in-None.is) c.in_ok-put_finale-in-None.ensures
