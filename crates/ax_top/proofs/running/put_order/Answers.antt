use Rattle.std.proofs.Common.{◌+◌, arith, refl}
use Rattle.ax_top.proofs.Runs.{none_done, next_done, next_missing, all_done}
use Rattle.ax_top.proofs.running.put_order.Goals as goal

pub loop-item-init : goal.loop-item-init
loop-item-init c = record { number = refl; done = none_done c.args.core.now c.args.out.now.items c.requires }

pub loop-item-preserved : goal.loop-item-preserved
loop-item-preserved c = record {
  number = omega arith;
  done = next_done c.args.core.now c.loop-item.core c.step.new.self c.args.order.now c.loop-item.item-index c.item-item.result c.in-Ok.line c.args.out.now.items c.loop-item.out.items c.line_text.new.out.items
      c.loop-item-test.true c.item-item.is c.loop-item.invariant.done c.in-Ok.ensures.done c.in-Ok.ensures.whole c.in_ok-line_text-in-Ok.ensures.ok;
}

pub returns-in-Err-NotThere : goal.returns-in-Err-NotThere
returns-in-Err-NotThere c =
    next_missing c.args.core.now c.loop-item.core c.step.new.self c.args.order.now c.loop-item.item-index (c.loop-item.number + 1) c.item-item.result _ _ c.args.out.now.items c.loop-item.out.items c.loop-item-test.true
    c.item-item.is (omega arith) c.loop-item.invariant.done c.in-Err-NotThere.ensures.refused c.in-Err-NotThere.field-0-is

pub returns : goal.returns
returns c = all_done c.args.core.now c.loop-item.core c.args.order.now c.loop-item.item-index c.args.out.now.items c.loop-item.out.items c.loop-item-test.false c.loop-item.invariant.done
