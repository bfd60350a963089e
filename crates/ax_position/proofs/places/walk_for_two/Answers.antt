use Rattle.std.proofs.Common.{sym, ap, ◌∙◌}
use Rattle.ax_position.specs.Walks.{folded, node_rows}
use Rattle.ax_stitch.proofs.Views.{view_told}
use Rattle.ax_position.proofs.Whole.{rows_gone, rows_bare, rows_whole, live_gone}
use Rattle.ax_position.proofs.places.walk_for_two.Goals as goal

pub returns-in_default-clause-seen : goal.returns-in_default-clause-seen
returns-in_default-clause-seen g c =
    sym (ap (folded g.S.Visitor.seen c.args.state.now) (rows_gone (g.G.Grove.forest c.args.g.now) c.first-tree.result c.args.targets.now c.tree.ensures.sound c.first-tree.ensures
    (live_gone g.G.Tree.TreeView.tree _ _ c.in_default.is c.tree.ensures.tree)))

pub returns-in_default-root-clause-seen : goal.returns-in_default-root-clause-seen
returns-in_default-root-clause-seen g c =
    sym (ap (folded g.S.Visitor.seen c.args.state.now) (rows_bare (g.G.Grove.forest c.args.g.now) c.first-tree.result (g.G.Tree.TreeView.tree c.in-Some.view.now) c.args.targets.now c.tree.ensures.sound c.first-tree.ensures
    (view_told g.G.Tree.TreeView.tree c.tree.result c.in-Some.view _ c.tree.ensures.tree c.in-Some.is) (sym c.root.ensures.root ∙ c.in_default-root.is)))

pub returns-clause-seen : goal.returns-clause-seen
returns-clause-seen g c =
    c.in_ok-walk_node.ensures.seen
    ∙ (ap (λ w. folded g.S.Visitor.seen c.args.state.now (node_rows 7 (g.G.Grove.forest c.args.g.now) c.args.targets.now w c.first-tree.result (g.G.Tree.TreeView.tree c.in-Some.view.now).trees c.in-Some-root.node)) c.outside.ensures
    ∙ sym (ap (folded g.S.Visitor.seen c.args.state.now) (rows_whole (g.G.Grove.forest c.args.g.now) c.first-tree.result c.in-Some-root.node (g.G.Tree.TreeView.tree c.in-Some.view.now) c.args.targets.now c.tree.ensures.sound c.first-tree.ensures
    (view_told g.G.Tree.TreeView.tree c.tree.result c.in-Some.view _ c.tree.ensures.tree c.in-Some.is) (sym c.root.ensures.root ∙ c.in-Some-root.is))))
