use Rattle.std.proofs.Common.{◌≡◌, [], drop}
use Rattle.ax_forms.specs.Looks.{with_states}
use Rattle.ax_forms.proofs.look.with_states.Given as goal

abbrev pub invariant-loop-state : goal.invariant-loop-state
invariant-loop-state l = with_states l.set (drop l.state-index l.states) ≡ with_states [] l.states
