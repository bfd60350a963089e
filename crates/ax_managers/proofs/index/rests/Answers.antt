use Rattle.std.proofs.Common.{◌∙◌, sym, nat_eq}
use Rattle.std.specs.HashMap.{get}
use Rattle.ax_order.specs.Marks.{is_marked}
use Rattle.ax_managers.proofs.Watching.{none_watched, calm_none, calm_rooted}
use Rattle.ax_managers.proofs.index.rests.Goals as goal

pub returns-then-is_empty : goal.returns-then-is_empty
returns-then-is_empty g c _ = calm_none (g.T.TreeView.tree c.args.t.now) (is_marked (get nat_eq c.args.watched.now)) c.args.touched.now (none_watched c.args.watched.now (c.is_empty.ensures.0 c.if-is_empty.true))

pub returns-then-contains_key : goal.returns-then-contains_key
returns-then-contains_key g c h =
    calm_rooted (g.T.TreeView.tree c.args.t.now) (is_marked (get nat_eq c.args.watched.now)) c.args.touched.now c.in-Some.root (sym c.root.ensures.root ∙ c.in-Some.is) (sym c.contains_key.ensures ∙ c.if-contains_key.true) (c.none_is_watched.ensures h)
