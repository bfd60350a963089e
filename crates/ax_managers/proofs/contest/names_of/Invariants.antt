use Rattle.std.proofs.Common.{◌≡◌, ℕ, cond, take, nat_eq, None}
use Rattle.std.specs.HashMap.{get}
use Rattle.std.specs.FinMap as fin
use Rattle.ax_trees.specs.Lists.{contains}
use Rattle.ax_managers.proofs.contest.names_of.Given as goal

abbrev pub invariant-loop-id : goal.invariant-loop-id
invariant-loop-id g l = (z : ℕ) → get nat_eq l.names z ≡ cond (contains (take l.id-index l.nodes) z) (fin.get l.known z) None
