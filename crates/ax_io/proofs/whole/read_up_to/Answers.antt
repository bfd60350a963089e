use Rattle.std.proofs.Common.{◌++◌, take, arith}
use Rattle.std.proofs.KnownBytes.{Consumes-trans}
use Rattle.std.proofs.lemmas.Grind.{common_steps}
use Rattle.ax_io.proofs.whole.read_up_to.Goals as goal

-- what the turns before took, and what this one did
pub returns-then-is_err-clause-taken : goal.returns-then-is_err-clause-taken
returns-then-is_err-clause-taken g c = (
  c.loop-room.bytes.items ++ take c.in-Ok.count c.read.new.into,
  grind (arith, common_steps),
  Consumes-trans _ _ _ _ _ c.loop-room.invariant.1 c.in-Ok.ensures.bytes.0,
)
