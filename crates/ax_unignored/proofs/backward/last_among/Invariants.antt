use Rattle.std.proofs.Common.{◌≡◌, ◌≤◌, flat_map, length, drop, None}
use Rattle.ax_unignored.specs.Shows.{shows}
use Rattle.ax_unignored.specs.Runs.{find_last, run_at}
use Rattle.ax_unignored.proofs.backward.last_among.Given as goal

abbrev pub invariant-loop-left : goal.invariant-loop-left
invariant-loop-left g l = record {
  within : l.left ≤ length l.ids;
  none : find_last (shows (g.G.Grove.forest l.g)) (flat_map (run_at l.levels (g.G.Grove.forest l.g) l.tree (g.G.Tree.TreeView.tree l.view).trees) (drop l.left l.ids)) ≡ None;
}

abbrev pub decreases-loop-left : goal.decreases-loop-left
decreases-loop-left g l = l.left
