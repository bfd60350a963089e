use Rattle.std.proofs.Common.{◌≡◌, take}
use Rattle.ax_pages.specs.Slots.{values_in}
use Rattle.ax_pages.proofs.page.Page.duplicate.Given as goal

abbrev pub invariant-loop-value : goal.invariant-loop-value
invariant-loop-value g l = values_in l.slots.items ≡ values_in (take l.value-index l.value-items)
