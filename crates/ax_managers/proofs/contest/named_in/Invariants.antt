use Rattle.std.proofs.Common.{◌≡◌, ◌++◌, drop, filter_map, nat_eq}
use Rattle.std.specs.HashMap.{get}
use Rattle.ax_managers.proofs.contest.named_in.Given as goal

abbrev pub invariant-loop-id : goal.invariant-loop-id
invariant-loop-id l = l.trees ++ filter_map (get nat_eq l.names) (drop l.id-index l.ids) ≡ filter_map (get nat_eq l.names) l.ids
