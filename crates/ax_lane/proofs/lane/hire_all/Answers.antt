use Rattle.std.proofs.Common.{ap, subst, sym, rules}
use Rattle.ax_lane.specs.Packets.{Includes}
use Rattle.ax_lane.proofs.Ended.{distinct_at}
use Rattle.ax_lane.proofs.lane.hire_all.Goals as goal

pub hire-requires-clause-new : goal.hire-requires-clause-new
hire-requires-clause-new c =
    subst (λ l. Includes l c.tree-item.result → ⊥) (sym (ap (λ v. v.trees) c.loop-tree.invariant.view))
    (distinct_at c.args.trees.now c.loop-tree.tree-index c.tree-item.result c.tree-item.is (search rules) c.requires.trees)
