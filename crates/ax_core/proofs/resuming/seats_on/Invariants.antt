use Rattle.std.proofs.Common.{◌≡◌, map}
use Rattle.ax_core.specs.Starting.{seat_on}
use Rattle.ax_core.proofs.resuming.seats_on.Given as goal

abbrev pub invariant-loop-script : goal.invariant-loop-script
invariant-loop-script l = l.seats.items ≡ map (λ p. seat_on p.0.0 p.0.1 p.1.now) l.yielded
