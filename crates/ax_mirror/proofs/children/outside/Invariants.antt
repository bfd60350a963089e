use Rattle.std.proofs.Common.{◌≡◌, drop, nat_eq, ◌++◌}
use Rattle.std.specs.HashSet as bag
use Rattle.ax_mirror.specs.Steps.{unlisted}
use Rattle.ax_mirror.proofs.children.outside.Given as goal

abbrev pub invariant-loop-id : goal.invariant-loop-id
invariant-loop-id l = l.out ++ unlisted (bag.contains nat_eq l.set) (drop l.id-index l.id-items) ≡ unlisted (bag.contains nat_eq l.set) l.id-items
