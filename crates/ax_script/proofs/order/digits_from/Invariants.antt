use Rattle.std.proofs.Common.{◌≡◌, ◌≤◌, drop}
use Rattle.ax_script.specs.Order.{digits_to}
use Rattle.ax_script.proofs.order.digits_from.Given as goal

abbrev pub invariant-loop-digit : goal.invariant-loop-digit
invariant-loop-digit l = record {
  rest : digits_to l.high l.number (drop l.digit-index l.digits) ≡ digits_to l.high l.start l.digits;
  grows : l.start ≤ l.number;
}
