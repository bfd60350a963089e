use Rattle.std.proofs.Common.{◌≡◌, ◌≤◌, [], drop, length}
use Rattle.ax_script.specs.Order.{items_after, pieces_from}
use Rattle.ax_script.specs.Trees.{knows}
use Rattle.ax_script.proofs.order.order_of.Given as goal

abbrev pub invariant-loop-c : goal.invariant-loop-c
invariant-loop-c l = record {
  rest : items_after (knows l.trees) l.readers l.found (pieces_from l.word.items (drop l.c-index l.text)) ≡ items_after (knows l.trees) l.readers [] (pieces_from [] l.text);
  few : length l.found ≤ l.c-index;
}
