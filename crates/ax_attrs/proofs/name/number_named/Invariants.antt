use Rattle.std.proofs.Common.{◌≡◌, drop}
use Rattle.ax_attrs.specs.Entry.{number_named}
use Rattle.ax_attrs.specs.Rows.{entries}
use Rattle.ax_attrs.proofs.name.number_named.Given as goal

abbrev pub invariant-loop-row : goal.invariant-loop-row
invariant-loop-row l = number_named (entries (drop l.row-index l.rows)) l.name ≡ number_named (entries l.rows) l.name
