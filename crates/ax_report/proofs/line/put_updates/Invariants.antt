use Rattle.std.proofs.Common.{◌≡◌, ◌++◌, take}
use Rattle.std.specs.List.{flat_map}
use Rattle.ax_run_rules.specs.LineText.{update_line}
use Rattle.ax_report.proofs.line.put_updates.Given as goal

abbrev pub invariant-loop-update : goal.invariant-loop-update
invariant-loop-update l = l.out.items ≡ l.fn.out.items ++ flat_map update_line (take l.update-index l.updates)
