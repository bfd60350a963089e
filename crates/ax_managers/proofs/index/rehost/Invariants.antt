use Rattle.std.proofs.Common.{◌≡◌, ℕ, cond, take, nat_eq}
use Rattle.std.specs.HashMap.{get}
use Rattle.std.specs.FinMap as fin
use Rattle.ax_trees.specs.Lists.{contains}
use Rattle.ax_managers.proofs.index.rehost.Given as goal

abbrev pub invariant-loop-tree : goal.invariant-loop-tree
invariant-loop-tree l = (u : ℕ) → fin.get l.hosts u ≡ cond (contains (take l.tree-index l.trees) u) (get nat_eq l.now u) (fin.get l.fn.hosts u)
