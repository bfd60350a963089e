use Rattle.std.proofs.Common.{◌∙◌, sym, ap}
use Rattle.std.specs.Arc.{arc_value}
use Rattle.ax_forest.specs.Shown.{ids_of}
use Rattle.ax_forest.proofs.Showing.{ids_shown}
use Rattle.ax_forest.proofs.table.Table.ids.Goals as goal

pub returns : goal.returns
returns c = c.as_slice.ensures ∙ (c.deref.ensures ∙ (sym (ids_shown (arc_value c.self.inside.ids) c.self.inside.mirrors) ∙ ap ids_of c.self.view_is))
