use Rattle.std.proofs.Common.{◌≡◌, ◌≤◌, ◌*◌, ◌+◌, length, drop, None}
use Rattle.ax_trees.specs.Trees.{height}
use Rattle.ax_trees.specs.Nodes.{below}
use Rattle.ax_hit.specs.Hits.{last_some, hit_from}
use Rattle.ax_hit.proofs.walk.+hit_at.Given as goal

abbrev pub decreases-hit_at : goal.decreases-hit_at
decreases-hit_at g l = l.levels * 257 + height (below (g.G.Tree.TreeView.tree l.view.now).trees l.p.now.node)

abbrev pub invariant-loop-left : goal.invariant-loop-left
invariant-loop-left g l = record {
  within : l.left ≤ length l.children;
  none : last_some (λ z. hit_from l.levels (g.G.Grove.forest l.g) l.at l.p.tree z (below (g.G.Tree.TreeView.tree l.view).trees z)) (drop l.left l.children) ≡ None;
}

abbrev pub decreases-loop-left : goal.decreases-loop-left
decreases-loop-left g l = l.left
