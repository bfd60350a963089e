use Rattle.std.proofs.Common.{◌∙◌, ap}
use Rattle.ax_node.specs.declared.tree_data.TreeData.{TreeData}
use Rattle.ax_managers.proofs.summary.stays.Goals as goal

pub returns-clause-rooted : goal.returns-clause-rooted
returns-clause-rooted g c _ = c.same_flag.ensures.0 c.if-not-same_flag.false ∙ c.has_root.ensures

pub returns-clause-parent : goal.returns-clause-parent
returns-clause-parent g c _ = c.same_parent.ensures.0 c.if-not-same_parent.false ∙ ap (λ (d : TreeData). d.parent) c.tree_data.ensures
