use Rattle.std.proofs.Common.{◌≡◌, ◌++◌, take}
use Rattle.std.specs.List.{flat_map}
use Rattle.ax_report.specs.Walks.{standing_text}
use Rattle.ax_report.proofs.dump.put_dump.Given as goal

abbrev pub invariant-loop-tree : goal.invariant-loop-tree
invariant-loop-tree g l = l.out.items ≡ l.fn.out.items ++ flat_map (standing_text (g.G.Grove.forest l.grove)) (take l.tree-index l.trees)
