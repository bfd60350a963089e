use Rattle.std.proofs.Common.{◌≡◌, take}
use Rattle.ax_tree.specs.Edits.{attrs_set}
use Rattle.ax_source.proofs.attributes.new_attrs.Given as goal

abbrev pub invariant-loop-change : goal.invariant-loop-change
invariant-loop-change l = l.new ≡ attrs_set (take l.change-index l.changes) l.fn.attrs
