use Rattle.ax_source.proofs.Ready.{IsAhead}
use Rattle.ax_source.proofs.attributes.first_bad.Given as goal

abbrev pub invariant-loop-i : goal.invariant-loop-i
invariant-loop-i l = IsAhead l.changes l.i
