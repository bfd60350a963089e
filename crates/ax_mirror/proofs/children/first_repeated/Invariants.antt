use Rattle.std.proofs.Common.{nat_eq}
use Rattle.std.specs.HashSet as bag
use Rattle.ax_mirror.proofs.Lists.{Seen}
use Rattle.ax_mirror.proofs.children.first_repeated.Given as goal

abbrev pub invariant-loop-id : goal.invariant-loop-id
invariant-loop-id l = Seen (bag.contains nat_eq l.set) l.id-items l.id-index
