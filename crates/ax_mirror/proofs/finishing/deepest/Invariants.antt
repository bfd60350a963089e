use Rattle.std.proofs.Common.{take}
use Rattle.ax_mirror.specs.Finishes.{IsDeepest}
use Rattle.ax_mirror.proofs.finishing.deepest.Given as goal

abbrev pub invariant-loop-id : goal.invariant-loop-id
invariant-loop-id l = IsDeepest l.nodes (take l.id-index l.ids) l.depth
