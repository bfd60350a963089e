use Rattle.std.proofs.Common.{◌≡◌, ◌++◌, flat_map, take}
use Rattle.ax_unignored.specs.Tops.{tops_at}
use Rattle.ax_unignored.proofs.inner.add_among.Given as goal

abbrev pub invariant-loop-id : goal.invariant-loop-id
invariant-loop-id g l = l.found ≡ l.initial.found ++ flat_map (tops_at l.levels (g.G.Grove.forest l.g) l.tree (g.G.Tree.TreeView.tree l.view).trees) (take l.id-index l.ids)
