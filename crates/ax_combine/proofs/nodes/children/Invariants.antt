use Rattle.std.proofs.Common.{◌≡◌, take, filter_map}
use Rattle.ax_rules.specs.Combined.{number_of}
use Rattle.ax_combine.proofs.nodes.children.Given as goal

abbrev pub invariant-loop-place : goal.invariant-loop-place
invariant-loop-place g l = l.ids ≡ filter_map (number_of l.numbering) (take l.place-index l.places)
