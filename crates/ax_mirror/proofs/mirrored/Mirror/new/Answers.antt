use Rattle.ax_mirror.proofs.Shows.{holds_none}
use Rattle.ax_mirror.proofs.mirrored.Mirror.new.Goals as goal

pub invariant_of-result : goal.invariant_of-result
invariant_of-result c = holds_none c.new.result c.new.ensures
