-- The numbers of the statuses.
use Rattle.std.specs.Prelude.{ℕ}
use Rattle.ax_top.specs.declared.top.Status.{Status}
use Rattle.ax_top.specs.declared.top.Status.TheVariants.{Ok, Usage, Script, ReadFault, WriteFault, NoMemory}

-- the number that the program ends with
abbrev pub status_number : Status → ℕ
status_number Ok = 0
status_number Usage = 2
status_number Script = 3
status_number ReadFault = 4
status_number WriteFault = 5
status_number NoMemory = 6
