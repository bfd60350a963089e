use Rattle.std.proofs.Common.{◌≡◌, [], map}
use Rattle.ax_actions.specs.Acting.{with_own}
use Rattle.ax_actions.proofs.sharing.without_actions.Given as goal

abbrev pub invariant-loop-frame : goal.invariant-loop-frame
invariant-loop-frame l = l.shares.items ≡ map (with_own []) l.yielded
