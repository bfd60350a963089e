-- Tree data that are shared.
use Rattle.std.specs.Prelude.{Option, Some, None}
use Rattle.std.specs.declared.sync.Arc.{Arc}
use Rattle.std.specs.Arc.{arc_value}
use Rattle.ax_node.specs.declared.tree_data.TreeData.{TreeData}

-- the data that were told last, or those that stand at the start
abbrev pub data_now : {Z : Type 0} → TreeData → Option (Arc TreeData Z) → TreeData
data_now blank None = blank
data_now blank (Some told) = arc_value told
