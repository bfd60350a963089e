use Rattle.std.proofs.Common.{◌≡◌, ◌++◌, drop, filter_map, nat_eq}
use Rattle.std.specs.HashMap.{get}
use Rattle.ax_managers.proofs.contest.hosts_in.Given as goal

abbrev pub invariant-loop-tree : goal.invariant-loop-tree
invariant-loop-tree l = l.nodes ++ filter_map (get nat_eq l.hosts) (drop l.tree-index l.trees) ≡ filter_map (get nat_eq l.hosts) l.trees
