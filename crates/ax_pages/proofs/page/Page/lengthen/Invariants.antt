use Rattle.std.proofs.Common.{◌≡◌, ℕ, ◌≤◌, length, ◌-◌}
use Rattle.ax_pages.specs.Slots.{slot, used_count, values_in}
use Rattle.ax_pages.proofs.page.Page.lengthen.Given as goal

abbrev pub invariant-loop-self : goal.invariant-loop-self
invariant-loop-self g l = record {
  slots : (j : ℕ) → slot (values_in l.self-inside.slots.items) j ≡ slot l.fn.self j;
  used : used_count (values_in l.self-inside.slots.items) ≡ used_count l.fn.self;
  counted : l.self-inside.used ≡ used_count l.fn.self;
  short : length l.self-inside.slots.items ≤ 64;
}

abbrev pub decreases-loop-self : goal.decreases-loop-self
decreases-loop-self g l = l.len - length l.self-inside.slots.items
