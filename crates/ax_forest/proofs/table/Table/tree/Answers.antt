use Rattle.std.proofs.Common.{◌∙◌, sym, ap, subst}
use Rattle.std.specs.Arc.{arc_value}
use Rattle.ax_tree.specs.Forest.{Forest, IsSound, live_tree}
use Rattle.ax_forest.proofs.Showing.{live_shown, is_sound}
use Rattle.ax_forest.proofs.table.Table.tree.Goals as goal

pub returns-clause-tree : goal.returns-clause-tree
returns-clause-tree c =
    c.get.ensures
    ∙ (sym (live_shown (arc_value c.self.inside.ids) c.self.inside.mirrors c.self.invariant c.args.t) ∙ ap (λ (f : Forest). live_tree f c.args.t) c.self.view_is)

pub returns-clause-sound : goal.returns-clause-sound
returns-clause-sound c = subst IsSound c.self.view_is (is_sound (arc_value c.self.inside.ids) c.self.inside.mirrors c.self.invariant)
