use Rattle.std.proofs.Common.{◌-◌, length}
use Rattle.ax_trees.specs.Nodes.{pre}
use Rattle.ax_views.proofs.Walking.{WalkLeft}
use Rattle.ax_views.proofs.walk.pre.Given as goal

abbrev pub invariant-loop-next : goal.invariant-loop-next
invariant-loop-next g l = WalkLeft (g.T.TreeView.tree l.t).trees l.fn.id l.out l.stack

abbrev pub decreases-loop-next : goal.decreases-loop-next
decreases-loop-next g l = length (pre (g.T.TreeView.tree l.t).trees l.fn.id) - length l.out
