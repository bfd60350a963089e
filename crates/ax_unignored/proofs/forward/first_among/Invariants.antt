use Rattle.std.proofs.Common.{◌≡◌, find, flat_map, take, None}
use Rattle.ax_unignored.specs.Shows.{shows}
use Rattle.ax_unignored.specs.Runs.{run_at}
use Rattle.ax_unignored.proofs.forward.first_among.Given as goal

abbrev pub invariant-loop-id : goal.invariant-loop-id
invariant-loop-id g l =
    find (shows (g.G.Grove.forest l.g)) (flat_map (run_at l.levels (g.G.Grove.forest l.g) l.tree (g.G.Tree.TreeView.tree l.view).trees) (take l.id-index l.ids)) ≡ None
