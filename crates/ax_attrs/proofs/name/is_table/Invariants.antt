use Rattle.ax_attrs.specs.Rows.{entries}
use Rattle.ax_attrs.proofs.CheckLemmas.{InPlace}
use Rattle.ax_attrs.proofs.name.is_table.Given as goal

abbrev pub invariant-loop-i : goal.invariant-loop-i
invariant-loop-i l = InPlace (entries l.rows) l.i
