use Rattle.std.proofs.Common.{take}
use Rattle.ax_mirror.specs.Finishes.{pends_among, IsLeast}
use Rattle.ax_mirror.proofs.finishing.least_pending.Given as goal

abbrev pub invariant-loop-id : goal.invariant-loop-id
invariant-loop-id l = IsLeast (pends_among l.nodes (take l.id-index l.ids)) l.so_far
