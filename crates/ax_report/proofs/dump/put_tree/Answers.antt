use Rattle.std.proofs.Common.{sym}
use Rattle.ax_report.proofs.WalkLemmas.{tree_done}
use Rattle.ax_report.proofs.dump.put_tree.Goals as goal

pub returns-in_ok-put_under-in-Some-clause-ok : goal.returns-in_ok-put_under-in-Some-clause-ok
returns-in_ok-put_under-in-Some-clause-ok g c =
    tree_done c.args.tree 255 (g.V.TreeView.tree c.args.view.now) c.in-Some.root c.tree_data.result.now c.args.out.now.items c.put_tree_line.new.out.items c.put_under.new.out.items
    c.root.ensures.well_formed (sym c.in-Some.ensures.root) c.requires c.tree_data.ensures c.in_ok-put_tree_line-in-Some.ensures.ok c.in_ok-put_under-in-Some.ensures.ok
