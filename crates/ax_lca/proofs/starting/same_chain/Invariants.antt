use Rattle.ax_trees.specs.Nodes.{depth}
use Rattle.ax_lca.proofs.Chains.{IsShared}
use Rattle.ax_lca.proofs.starting.same_chain.Given as goal

abbrev pub invariant-loop-above : goal.invariant-loop-above
invariant-loop-above g l = IsShared l.c.tree (g.T.TreeView.tree l.s).trees l.fn.id l.at

abbrev pub decreases-loop-above : goal.decreases-loop-above
decreases-loop-above g l = depth (g.T.TreeView.tree l.s).trees l.at
