use Rattle.std.proofs.Common.{ℕ, ◌≡◌, cond, None, nat_eq, take}
use Rattle.std.specs.HashMap.{get}
use Rattle.ax_trees.specs.Lists.{contains}
use Rattle.ax_views.proofs.gone.take_out.Given as goal

abbrev pub invariant-loop-id : goal.invariant-loop-id
invariant-loop-id g l = (z : ℕ) → get nat_eq l.entries z ≡ cond (contains (take l.id-index l.gone) z) None (get nat_eq l.fn.entries z)
