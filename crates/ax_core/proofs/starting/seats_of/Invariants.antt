use Rattle.std.proofs.Common.{◌≡◌, map}
use Rattle.ax_core.specs.Starting.{first_frame}
use Rattle.ax_core.proofs.starting.seats_of.Given as goal

abbrev pub invariant-loop-frame : goal.invariant-loop-frame
invariant-loop-frame l = l.seats.items ≡ map first_frame l.yielded
