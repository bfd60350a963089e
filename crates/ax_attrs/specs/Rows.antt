-- What contracts see of the program's rows.
use Rattle.std.specs.Prelude.{List, map}
use Rattle.ax_attrs.specs.declared.table.Row.{Row}
use Rattle.ax_attrs.specs.Entry.{Entry}

abbrev pub entry_of : Row → Entry
entry_of row = record { number = row.number; name = row.name.now; kind = row.kind; event = row.event }

abbrev pub entries : List Row → List Entry
entries rows = map entry_of rows
