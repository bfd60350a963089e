use Rattle.std.proofs.Common.{sym, ◌∙◌}
use Rattle.ax_stitch.proofs.Views.{view_told, view_some}
use Rattle.ax_stitch.proofs.Places.{not_gone}
use Rattle.ax_stitch.proofs.Under.{parent_some, parent_host}
use Rattle.ax_stitch.proofs.Sound.{sound_formed}
use Rattle.ax_stitch.proofs.walks.parent.Goals as goal

pub unwrap-view-requires : goal.unwrap-view-requires
unwrap-view-requires g c = view_some g.G.Tree.TreeView.tree c.tree.result _ c.tree.ensures.tree (not_gone (g.G.Grove.forest c.args.g.now) c.args.p c.requires)

pub returns-in-Some : goal.returns-in-Some
returns-in-Some g c =
    sym (parent_some (g.G.Grove.forest c.args.g.now) c.args.p (g.G.Tree.TreeView.tree c.unwrap-view.result.now) c.in-Some.node c.requires (sound_formed 8 (g.G.Grove.forest c.args.g.now) c.args.p.tree c.tree.ensures.sound)
    (view_told g.G.Tree.TreeView.tree c.tree.result c.unwrap-view.result _ c.tree.ensures.tree c.unwrap-view.ensures) (sym c.in-Some.ensures))

pub returns-in-None : goal.returns-in-None
returns-in-None g c =
    c.host_of.ensures
    ∙ sym (parent_host (g.G.Grove.forest c.args.g.now) c.args.p (g.G.Tree.TreeView.tree c.unwrap-view.result.now) c.requires (sound_formed 8 (g.G.Grove.forest c.args.g.now) c.args.p.tree c.tree.ensures.sound)
    (view_told g.G.Tree.TreeView.tree c.tree.result c.unwrap-view.result _ c.tree.ensures.tree c.unwrap-view.ensures) (sym c.in-None.ensures))
