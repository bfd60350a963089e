use Rattle.std.proofs.Common.{◌≡◌, ◌||◌, ℕ, take}
use Rattle.ax_trees.specs.Lists.{contains}
use Rattle.ax_managers.proofs.contest.add_all.Given as goal

abbrev pub invariant-loop-id : goal.invariant-loop-id
invariant-loop-id l = (z : ℕ) → contains l.nodes z ≡ (contains l.fn.nodes z || contains (take l.id-index l.ids) z)
