use Rattle.std.proofs.Common.{◌≡◌, ◌++◌, drop, filter_map}
use Rattle.std.specs.FinMap as fin
use Rattle.ax_managers.proofs.contest.known_hosts.Given as goal

abbrev pub invariant-loop-tree : goal.invariant-loop-tree
invariant-loop-tree l = l.hosts ++ filter_map (fin.get l.known) (drop l.tree-index l.trees) ≡ filter_map (fin.get l.known) l.trees
