use Rattle.std.proofs.Common.{◌<◌, sym, ◌∙◌, arith}
use Rattle.ax_trees.specs.Trees.{height}
use Rattle.ax_trees.specs.Nodes.{below}
use Rattle.ax_views.proofs.Walking.{children_from, absent_from}
use Rattle.ax_lca.proofs.Levels.{lower_below, listed_at}
use Rattle.ax_lca.proofs.Raising.{child_no_root, held_over, widening_starts, widening_ends, widening_none, widening_skips, widening_goes_on}
use Rattle.ax_lca.proofs.closing.+widened.Goals as goal

pub returns-in-None : goal.returns-in-None
returns-in-None g t c = record {
  raised = widening_none c.args.c.now.tree (g.T.TreeView.tree c.args.s.now).trees c.root-2.ensures.is_tree.distinct c.root.ensures.well_formed.distinct c.args.id c.args.seen c.args.lowest (absent_from _ c.args.id c.in-None.ensures);
}

pub loop-child-init : goal.loop-child-init
loop-child-init g t c =
    let items = c.as_slice-child-items.ensures ∙ children_from _ c.args.id _ c.in-Some.ensures in
    record {
      items = items;
      done = widening_starts c.args.c.now.tree (g.T.TreeView.tree c.args.s.now).trees c.root-2.ensures.is_tree.distinct c.root.ensures.well_formed.distinct c.args.id c.args.seen _ c.args.lowest items;
    }

pub loop-child-preserved-then-is_one : goal.loop-child-preserved-then-is_one
loop-child-preserved-then-is_one g t c = record {
  items = c.loop-child.invariant.items;
  done = widening_skips c.args.c.now.tree (g.T.TreeView.tree c.args.s.now).trees c.root-2.ensures.is_tree.distinct c.root.ensures.well_formed.distinct c.args.id c.args.seen _ c.loop-child.child-index c.child-item.result c.args.lowest c.loop-child.lowest
      c.loop-child.invariant.done c.loop-child-test.true c.child-item.is (sym c.if-is_one.ensures);
}

pub raised-start-requires-clause-held : goal.raised-start-requires-clause-held
raised-start-requires-clause-held g t c = held_over c.args.c.now.tree c.root-2.ensures.is_tree.distinct c.loop-child.lowest c.args.lowest c.loop-child.invariant.done.raised.over c.requires.held

pub raised-start-requires-clause-no_root : goal.raised-start-requires-clause-no_root
raised-start-requires-clause-no_root g t c =
    let f = (g.T.TreeView.tree c.args.s.now).trees in
    child_no_root c.args.c.now.tree f c.args.id c.child-item.result c.root.ensures.well_formed c.requires.same_root
    (listed_at f c.args.id _ c.loop-child.child-index c.child-item.result c.loop-child.invariant.items c.loop-child-test.true c.child-item.is)

pub widened-lowest-requires : goal.widened-lowest-requires
widened-lowest-requires g t c κs within =
    let f = (g.T.TreeView.tree c.args.s.now).trees in
    let child = listed_at f c.args.id _ c.loop-child.child-index c.child-item.result c.loop-child.invariant.items c.loop-child-test.true c.child-item.is in
    let less = lower_below f c.args.id c.child-item.result c.root.ensures.well_formed.distinct child in
    let falls : height (below f c.child-item.result) < t = omega (arith, less, c.decreases) in
    let held = held_over c.args.c.now.tree c.root-2.ensures.is_tree.distinct c.loop-child.lowest c.args.lowest c.loop-child.invariant.done.raised.over c.requires.held in
    (falls, (within, (held_over c.args.c.now.tree c.root-2.ensures.is_tree.distinct c.raised-start.result c.loop-child.lowest c.raised-start.ensures.over held, c.requires.same_root)))

pub loop-child-preserved : goal.loop-child-preserved
loop-child-preserved g t c = record {
  items = c.loop-child.invariant.items;
  done = widening_goes_on c.args.c.now.tree (g.T.TreeView.tree c.args.s.now).trees c.root-2.ensures.is_tree.distinct c.root.ensures.well_formed.distinct c.args.id c.args.seen _ c.loop-child.child-index c.child-item.result c.args.lowest c.loop-child.lowest
      c.raised-start.result c.widened-lowest.result c.loop-child.invariant.done c.loop-child-test.true c.child-item.is (sym c.if-is_one.ensures) c.raised-start.ensures c.widened-lowest.ensures.raised;
}

pub returns : goal.returns
returns g t c = record {
  raised = widening_ends c.args.c.now.tree (g.T.TreeView.tree c.args.s.now).trees c.root-2.ensures.is_tree.distinct c.root.ensures.well_formed.distinct c.args.id c.args.seen _ c.loop-child.child-index c.args.lowest c.loop-child.lowest
      c.loop-child.invariant.done c.loop-child-test.false;
}
