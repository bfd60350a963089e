use Rattle.std.proofs.Common.{◌≡◌, ◌++◌, drop, filter_map}
use Rattle.std.specs.FinMap as fin
use Rattle.ax_managers.proofs.contest.add_known.Given as goal

abbrev pub invariant-loop-id : goal.invariant-loop-id
invariant-loop-id l = l.trees ++ filter_map (fin.get l.known) (drop l.id-index l.ids) ≡ l.fn.trees ++ filter_map (fin.get l.known) l.ids
