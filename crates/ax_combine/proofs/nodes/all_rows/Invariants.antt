use Rattle.std.proofs.Common.{◌≡◌, take}
use Rattle.ax_combine.proofs.Rows.{rows_of}
use Rattle.ax_combine.proofs.nodes.all_rows.Given as goal

abbrev pub invariant-loop-at : goal.invariant-loop-at
invariant-loop-at g l = l.rows ≡ take l.at (rows_of (g.G.Grove.forest l.g))
