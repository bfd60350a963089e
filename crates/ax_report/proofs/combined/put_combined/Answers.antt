use Rattle.std.proofs.Common.{sym, ◌∙◌, arith}
use Rattle.ax_report.proofs.CombinedLemmas.{no_rows, all_rows}
use Rattle.ax_report.proofs.combined.put_combined.Goals as goal

pub returns-then-count-eq0-clause-ok : goal.returns-then-count-eq0-clause-ok
returns-then-count-eq0-clause-ok g c f i =
    no_rows f (g.C.CombinedView.places c.args.view.now) (g.C.TreeView.tree c.args.view.now) c.get-tree.result c.tree_data.result.now c.deref.result.now c.args.out.now.items c.put.new.out.items
    (sym c.place_count-count.ensures.count ∙ c.if-count-eq0.true) c.tree_data.ensures c.get-tree.ensures.same (c.deref.ensures ∙ c.in_ok-format.ensures.ok)
    c.in_ok-put.ensures.ok i

pub returns-clause-ok : goal.returns-clause-ok
returns-clause-ok g c f i =
    all_rows f (g.C.CombinedView.places c.args.view.now) (g.C.TreeView.tree c.args.view.now) c.tree_data-2.result.now c.args.out.now.items c.put_tree_line.new.out.items c.put_rows.new.out.items
    (omega arith) c.tree_data-2.ensures c.in_ok-put_tree_line.ensures.ok (c.in_ok-put_rows.ensures.ok f i) i
