use Rattle.std.proofs.Common.{◌≡◌, ℕ, take, nat_eq}
use Rattle.std.specs.HashSet as bag
use Rattle.ax_trees.specs.Lists.{contains}
use Rattle.ax_mirror.proofs.children.set_of.Given as goal

abbrev pub invariant-loop-id : goal.invariant-loop-id
invariant-loop-id l = (z : ℕ) → bag.contains nat_eq l.set z ≡ contains (take l.id-index l.id-items) z
