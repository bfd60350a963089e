use Rattle.std.proofs.Common.{◌≡◌, ℕ, cond, take, nat_eq}
use Rattle.std.specs.HashMap.{get}
use Rattle.ax_trees.specs.Lists.{contains}
use Rattle.ax_managers.specs.Naming.{named_at}
use Rattle.ax_managers.proofs.contest.put_names.Given as goal

abbrev pub invariant-loop-id : goal.invariant-loop-id
invariant-loop-id g l = (z : ℕ) → get nat_eq l.names z ≡ cond (contains (take l.id-index l.ids) z) (named_at (g.T.TreeView.tree l.t) z) (get nat_eq l.fn.names z)
