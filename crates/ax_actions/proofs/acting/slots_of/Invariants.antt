use Rattle.std.specs.List.{AllZip}
use Rattle.ax_actions.specs.Acting.{IsWaiting}
use Rattle.ax_actions.proofs.acting.slots_of.Given as goal

abbrev pub invariant-loop-share : goal.invariant-loop-share
invariant-loop-share g l = AllZip IsWaiting l.yielded l.slots.items
