use Rattle.std.proofs.Common.{sym, ap, ◌∙◌, arith}
use Rattle.std.specs.Option.{option_copied}
use Rattle.ax_report.proofs.WalkLemmas.{nothing_there, under_lone, child_done, under_done}
use Rattle.ax_report.proofs.dump.+put_under.Goals as goal

pub returns-in_default-clause-ok : goal.returns-in_default-clause-ok
returns-in_default-clause-ok g t c =
    nothing_there (g.V.TreeView.tree c.args.view.now) c.args.levels c.args.indent.now c.args.id c.args.out.now.items (sym c.node.ensures ∙ ap option_copied c.in_default.is)

pub returns-then-levels-eq0-clause-ok : goal.returns-then-levels-eq0-clause-ok
returns-then-levels-eq0-clause-ok g t c =
    under_lone (g.V.TreeView.tree c.args.view.now) c.args.levels c.args.indent.now c.args.id c.in-Some.node.now c.args.out.now.items c.put_node.new.out.items
    (sym c.in-Some.ensures) c.if-levels-eq0.true c.in_ok-put_node.ensures.ok

pub loop-child-preserved : goal.loop-child-preserved
loop-child-preserved g t c =
    child_done (g.V.TreeView.tree c.args.view.now) _ _ c.deref.result.now _ c.as_slice-children.result.now c.loop-child.out.items _ c.loop-child.child-index c.child-item.result
    c.loop-child-test.true c.child-item.is c.loop-child.invariant c.deref.ensures c.in_ok-put_under.ensures.ok

pub returns-clause-ok : goal.returns-clause-ok
returns-clause-ok g t c =
    under_done (g.V.TreeView.tree c.args.view.now) c.args.levels c.args.indent.now _ c.args.id c.in-Some.node.now c.as_slice-children.result.now c.args.out.now.items c.put_node.new.out.items _
    c.loop-child.child-index (sym c.in-Some.ensures) (omega arith) c.in_ok-deeper.ensures.ok c.as_slice-children.ensures c.in_ok-put_node.ensures.ok (omega arith) c.loop-child.invariant
