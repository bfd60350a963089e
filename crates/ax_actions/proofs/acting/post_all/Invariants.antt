use Rattle.std.proofs.Common.{◌≡◌, ◌++◌, map}
use Rattle.ax_actions.specs.declared.hand.Letter.TheVariants.{Do}
use Rattle.ax_actions.proofs.acting.post_all.Given as goal

abbrev pub invariant-loop-action : goal.invariant-loop-action
invariant-loop-action g l = record {
  table : l.by.table ≡ l.initial.by.table;
  posted : l.by.posted ≡ l.initial.by.posted ++ map Do l.yielded;
}
