use Rattle.std.proofs.Common.{◌++◌, sym, ap, ◌∙◌}
use Rattle.ax_stitch.proofs.Views.{view_told}
use Rattle.ax_combine.specs.Runs.{run_at}
use Rattle.ax_combine.proofs.Walks.{all_from, gone_live, none_live, none_rooted}
use Rattle.ax_combine.proofs.walk.all_places.Goals as goal

pub returns-in_default-clause-places : goal.returns-in_default-clause-places
returns-in_default-clause-places g c =
    let f = g.G.Grove.forest c.args.g.now in
    c.new-found.ensures ∙ sym (none_live f c.first-tree.result c.first-tree.ensures (gone_live g.G.Tree.TreeView.tree c.tree.result _ c.in_default.is c.tree.ensures.tree))

pub returns-in_default-root-clause-places : goal.returns-in_default-root-clause-places
returns-in_default-root-clause-places g c =
    let f = g.G.Grove.forest c.args.g.now in
    let m = g.G.Tree.TreeView.tree c.in-Some.view.now in
    let live = view_told g.G.Tree.TreeView.tree c.tree.result c.in-Some.view _ c.tree.ensures.tree c.in-Some.is in
    c.new-found.ensures ∙ sym (none_rooted f c.first-tree.result m c.tree.ensures.sound c.first-tree.ensures live (sym c.root.ensures.root ∙ c.in_default-root.is))

pub returns-clause-places : goal.returns-clause-places
returns-clause-places g c =
    let f = g.G.Grove.forest c.args.g.now in
    let m = g.G.Tree.TreeView.tree c.in-Some.view.now in
    let live = view_told g.G.Tree.TreeView.tree c.tree.result c.in-Some.view _ c.tree.ensures.tree c.in-Some.is in
    c.in_ok-add_places.ensures
    ∙ (ap (λ l. l ++ run_at 7 f c.first-tree.result m.trees c.in-Some-root.node) c.new-found.ensures
    ∙ sym (all_from f c.first-tree.result m c.in-Some-root.node c.tree.ensures.sound c.first-tree.ensures live (sym c.root.ensures.root ∙ c.in-Some-root.is)))
