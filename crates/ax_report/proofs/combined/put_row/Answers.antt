use Rattle.std.proofs.Common.{◌++◌, sym, ap, ◌∙◌}
use Rattle.std.specs.Option.{option_copied}
use Rattle.ax_report.proofs.CombinedLemmas.{node_there, row_done, row_grown}
use Rattle.ax_report.proofs.combined.put_row.Goals as goal

pub unwrap-node-requires : goal.unwrap-node-requires
unwrap-node-requires g c =
    node_there (g.C.CombinedView.places c.args.view.now) (g.C.TreeView.tree c.args.view.now) c.args.at c.number_at-id.result c.node.result c.requires.numbered c.requires.there
    c.number_at-id.ensures c.node.ensures

pub returns-clause-ok : goal.returns-clause-ok
returns-clause-ok g c f i =
    row_done f (g.C.CombinedView.places c.args.view.now) (g.C.TreeView.tree c.args.view.now) c.args.at c.number_at-id.result c.unwrap-place.result c.unwrap-node.result.now c.parent-under.result
    c.args.out.now.items c.put.new.out.items c.put_look.new.out.items c.put-2.new.out.items c.requires.there c.number_at-id.ensures
    (sym c.unwrap-place.ensures ∙ c.place.ensures) (sym (ap option_copied c.unwrap-node.ensures) ∙ c.node.ensures) c.parent-under.ensures
    (c.in_ok-put.ensures.ok ∙ ap (λ xs. c.args.out.now.items ++ xs) (c.deref.ensures ∙ c.in_ok-row_head.ensures)) c.in_ok-put_look.ensures.ok c.in_ok-put-2.ensures.ok i

pub returns-clause-grown : goal.returns-clause-grown
returns-clause-grown g c =
    row_grown c.args.out.now.items c.put.new.out.items c.put_look.new.out.items c.put-2.new.out.items _ _ _ c.in_ok-put.ensures.ok c.in_ok-put_look.ensures.ok c.in_ok-put-2.ensures.ok
