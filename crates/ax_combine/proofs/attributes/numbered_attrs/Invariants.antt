use Rattle.std.proofs.Common.{◌≡◌, take, filter_map}
use Rattle.ax_rules.specs.Combined.{numbered_attr}
use Rattle.ax_combine.proofs.attributes.numbered_attrs.Given as goal

abbrev pub invariant-loop-entry : goal.invariant-loop-entry
invariant-loop-entry l = l.out ≡ filter_map (numbered_attr l.numbering l.tree) (take l.entry-index l.entries)
