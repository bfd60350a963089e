use Rattle.std.proofs.Common.{◌≡◌, ◌++◌}
use Rattle.ax_actions.proofs.acting.add_lines.Given as goal

abbrev pub invariant-loop-line : goal.invariant-loop-line
invariant-loop-line l = l.lines ≡ l.initial.lines ++ l.yielded
