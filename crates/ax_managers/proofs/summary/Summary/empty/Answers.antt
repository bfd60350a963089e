use Rattle.std.proofs.Common.{refl}
use Rattle.ax_tree.specs.Tree.{empty}
use Rattle.ax_managers.proofs.Shown.{told_of}
use Rattle.ax_managers.proofs.summary.Summary.empty.Goals as goal

pub returns-clause-of : goal.returns-clause-of
returns-clause-of c t = told_of (empty t) _ _ c.new.result refl refl (c.new.ensures.of t)

pub returns-clause-agrees : goal.returns-clause-agrees
returns-clause-agrees c = c.new.ensures.sound.hosting
