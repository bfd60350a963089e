use Rattle.std.proofs.Common.{sym, ap, ◌∙◌}
use Rattle.ax_trees.specs.Trees.{ids}
use Rattle.ax_views.proofs.Walking.{walk_begins, walk_next, walk_goes_on, walk_there, walk_smaller, walk_ends, there_from, absent_from, tree_at_none}
use Rattle.ax_views.proofs.walk.pre.Goals as goal

pub returns-in-None : goal.returns-in-None
returns-in-None g c = c.new-out.ensures ∙ sym (ap ids (tree_at_none (g.T.TreeView.tree c.args.t.now).trees c.args.id (absent_from _ c.args.id c.in-None.ensures)))

pub loop-next-init : goal.loop-next-init
loop-next-init g c =
    walk_begins _ c.args.id _ _ _ c.root.ensures.well_formed.distinct (there_from _ c.args.id _ c.in-Some.ensures) c.new-out.ensures c.new-stack.ensures c.in_ok-push.ensures.ok

pub returns : goal.returns
returns g c = walk_ends _ _ _ _ c.loop-next.invariant c.in_default.ensures.0

pub loop-next-smaller-in-Continue-branch-3 : goal.loop-next-smaller-in-Continue-branch-3
loop-next-smaller-in-Continue-branch-3 g c = walk_smaller _ _ _ _ _ _ (walk_next _ _ _ _ _ _ c.loop-next.invariant c.in-Some-pop.ensures) c.in_ok-push-2.ensures.ok

pub loop-next-preserved-in-Continue-branch-3 : goal.loop-next-preserved-in-Continue-branch-3
loop-next-preserved-in-Continue-branch-3 g c =
    walk_goes_on _ _ _ _ _ _ _ _ (walk_next _ _ _ _ _ _ c.loop-next.invariant c.in-Some-pop.ensures) c.in_ok-push-2.ensures.ok c.in-Some-node.ensures c.in_ok-push_reversed.ensures.ok

pub loop-next-smaller : goal.loop-next-smaller
loop-next-smaller g c =
    absurd (walk_there _ _ _ _ _ (walk_next _ _ _ _ _ _ c.loop-next.invariant c.in-Some-pop.ensures) c.in_default-node.ensures)

pub loop-next-preserved : goal.loop-next-preserved
loop-next-preserved g c =
    absurd (walk_there _ _ _ _ _ (walk_next _ _ _ _ _ _ c.loop-next.invariant c.in-Some-pop.ensures) c.in_default-node.ensures)
