use Rattle.std.proofs.Common.{vec_len}
use Rattle.ax_hub.proofs.Readers.{ReadSoFar}
use Rattle.ax_hub.proofs.closing.close_forest.Given as goal

abbrev pub invariant-loop-reader : goal.invariant-loop-reader
invariant-loop-reader l = ReadSoFar l.fn.readers.items l.turn l.fn.seat.seen l.readers.items l.seat

abbrev pub decreases-loop-reader : goal.decreases-loop-reader
decreases-loop-reader l = vec_len l.readers
