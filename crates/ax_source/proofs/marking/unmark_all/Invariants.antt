use Rattle.std.proofs.Common.{◌≡◌, take}
use Rattle.ax_source.specs.Marking.{less}
use Rattle.ax_source.proofs.marking.unmark_all.Given as goal

abbrev pub invariant-loop-id : goal.invariant-loop-id
invariant-loop-id l = l.marks ≡ less (take l.id-index l.ids) l.fn.marks
