use Rattle.std.proofs.Common.{◌≡◌, ◌++◌, ◌-◌, take}
use Rattle.std.specs.List.{flat_map}
use Rattle.std.specs.String.{string_bytes}
use Rattle.ax_report.specs.Walks.{under_text}
use Rattle.ax_report.proofs.dump.+put_under.Given as goal

abbrev pub decreases-put_under : goal.decreases-put_under
decreases-put_under g l = l.levels

abbrev pub invariant-loop-child : goal.invariant-loop-child
invariant-loop-child g l = l.out.items ≡ l.initial.out.items ++ flat_map (under_text (g.V.TreeView.tree l.view) (l.levels - 1) (string_bytes l.deeper)) (take l.child-index l.children)
