use Rattle.std.proofs.Common.{◌≡◌, ◌+◌, length, take}
use Rattle.std.specs.Prelude.{sum_by}
use Rattle.ax_ask.specs.declared.line.UpdateNote.{UpdateNote}
use Rattle.ax_top.proofs.making.with_listed.Given as goal

abbrev pub invariant-loop-update : goal.invariant-loop-update
invariant-loop-update l = l.sum ≡ l.listed + sum_by (λ (u : UpdateNote). length u.nodes) (take l.update-index l.updates)
