use Rattle.std.proofs.Common.{◌≡◌, take}
use Rattle.ax_top.specs.Running.{AreDone}
use Rattle.ax_top.proofs.running.put_order.Given as goal

abbrev pub invariant-loop-item : goal.invariant-loop-item
invariant-loop-item l = record {
  number : l.number ≡ l.item-index;
  done : AreDone l.fn.core (take l.item-index l.order) l.core l.fn.out.items l.out.items;
}
