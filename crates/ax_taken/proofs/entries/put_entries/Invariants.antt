use Rattle.std.proofs.Common.{◌≡◌, ◌++◌, take, drop}
use Rattle.std.specs.List.{flat_map}
use Rattle.ax_run_rules.specs.Taken.{journal_items}
use Rattle.ax_taken.proofs.entries.put_entries.Given as goal

abbrev pub invariant-loop-at : goal.invariant-loop-at
invariant-loop-at l = l.order ≡ l.fn.order ++ flat_map (journal_items l.fn.tree) (drop l.fn.from (take l.at l.journal))
