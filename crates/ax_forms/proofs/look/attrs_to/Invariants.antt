use Rattle.std.proofs.Common.{◌≡◌, Ok}
use Rattle.serde_json.specs.View.{view}
use Rattle.ax_forms.specs.Looks.{attrs_to}
use Rattle.ax_forms.proofs.look.attrs_to.Given as goal

abbrev pub invariant-loop-n : goal.invariant-loop-n
invariant-loop-n l = attrs_to l.n (view l.v) ≡ Ok l.attrs
