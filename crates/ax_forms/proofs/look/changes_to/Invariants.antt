use Rattle.std.proofs.Common.{◌≡◌, Ok}
use Rattle.serde_json.specs.View.{view}
use Rattle.ax_forms.specs.Looks.{changes_to}
use Rattle.ax_forms.proofs.look.changes_to.Given as goal

abbrev pub invariant-loop-n : goal.invariant-loop-n
invariant-loop-n l = changes_to l.n (view l.v) ≡ Ok l.changes
