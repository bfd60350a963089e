use Rattle.std.proofs.Common.{◌≡◌, ℕ, cond, take, nat_eq}
use Rattle.std.specs.HashMap.{get}
use Rattle.std.specs.FinMap as fin
use Rattle.ax_trees.specs.Lists.{contains}
use Rattle.ax_managers.proofs.index.rename.Given as goal

abbrev pub invariant-loop-id : goal.invariant-loop-id
invariant-loop-id l = (z : ℕ) → fin.get l.named z ≡ cond (contains (take l.id-index l.ids) z) (get nat_eq l.names z) (fin.get l.fn.named z)
