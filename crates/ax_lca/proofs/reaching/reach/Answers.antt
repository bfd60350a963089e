use Rattle.std.proofs.Common.{◌∙◌}
use Rattle.ax_views.proofs.Walking.{children_from, absent_from}
use Rattle.ax_tree.specs.SerialRule.{goes_on}
use Rattle.ax_lca.proofs.Walks.{reaching_starts, reaching_goes_on, reaching_smaller, reaching_there, reaching_ends, not_absent}
use Rattle.ax_lca.proofs.reaching.reach.Goals as goal

pub loop-next-init : goal.loop-next-init
loop-next-init g c =
    reaching_starts c.args.c.now.tree (goes_on c.args.c.now.tree c.args.m.now) (g.T.TreeView.tree c.args.s.now).trees c.root.ensures.well_formed.distinct c.args.x _ _ _ c.requires c.new-ids.ensures c.new-stack.ensures c.in_ok-push.ensures.ok

pub loop-next-smaller-in-Some-node : goal.loop-next-smaller-in-Some-node
loop-next-smaller-in-Some-node g c =
    reaching_smaller c.args.c.now.tree (goes_on c.args.c.now.tree c.args.m.now) (g.T.TreeView.tree c.args.s.now).trees c.root.ensures.well_formed.distinct c.args.x _ _ _ _ _ _ c.loop-next.invariant c.in-Some.ensures c.in_ok-push-2.ensures.ok

pub loop-next-preserved-in-Some-node : goal.loop-next-preserved-in-Some-node
loop-next-preserved-in-Some-node g c =
    reaching_goes_on c.args.c.now.tree (goes_on c.args.c.now.tree c.args.m.now) (g.T.TreeView.tree c.args.s.now).trees c.root.ensures.well_formed.distinct c.args.x _ _ _ _ _ _ c.in-Some.next _ _ _ c.loop-next.invariant c.in-Some.ensures
    (c.as_slice.ensures ∙ children_from _ c.in-Some.next _ c.in-Some-node.ensures) c.in_ok-push-2.ensures.ok c.in_ok-here.ensures.pushed c.in_ok-here.ensures.fits c.both-fits.ensures

pub loop-next-smaller : goal.loop-next-smaller
loop-next-smaller g c =
    absurd (not_absent (g.T.TreeView.tree c.args.s.now).trees c.in-Some.next (absent_from _ c.in-Some.next c.in_default-node.ensures)
    (reaching_there c.args.c.now.tree (goes_on c.args.c.now.tree c.args.m.now) (g.T.TreeView.tree c.args.s.now).trees c.root.ensures.well_formed.distinct c.args.x _ _ _ c.in-Some.next _ c.loop-next.invariant c.in-Some.ensures))

pub loop-next-preserved : goal.loop-next-preserved
loop-next-preserved g c =
    absurd (not_absent (g.T.TreeView.tree c.args.s.now).trees c.in-Some.next (absent_from _ c.in-Some.next c.in_default-node.ensures)
    (reaching_there c.args.c.now.tree (goes_on c.args.c.now.tree c.args.m.now) (g.T.TreeView.tree c.args.s.now).trees c.root.ensures.well_formed.distinct c.args.x _ _ _ c.in-Some.next _ c.loop-next.invariant c.in-Some.ensures))

pub returns-clause-ids : goal.returns-clause-ids
returns-clause-ids g c =
    (reaching_ends c.args.c.now.tree (goes_on c.args.c.now.tree c.args.m.now) (g.T.TreeView.tree c.args.s.now).trees c.root.ensures.well_formed.distinct c.args.x _ _ _ c.loop-next.invariant c.in_default.ensures.0).0

pub returns-clause-fits : goal.returns-clause-fits
returns-clause-fits g c =
    (reaching_ends c.args.c.now.tree (goes_on c.args.c.now.tree c.args.m.now) (g.T.TreeView.tree c.args.s.now).trees c.root.ensures.well_formed.distinct c.args.x _ _ _ c.loop-next.invariant c.in_default.ensures.0).1
