use Rattle.std.proofs.Common.{◌≡◌, ◌++◌, drop, filter_map}
use Rattle.ax_managers.specs.Naming.{named_at}
use Rattle.ax_managers.proofs.contest.add_named.Given as goal

abbrev pub invariant-loop-id : goal.invariant-loop-id
invariant-loop-id g l = l.trees ++ filter_map (named_at (g.T.TreeView.tree l.t)) (drop l.id-index l.ids) ≡ l.fn.trees ++ filter_map (named_at (g.T.TreeView.tree l.t)) l.ids
