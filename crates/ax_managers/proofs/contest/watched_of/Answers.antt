use Rattle.std.proofs.Common.{ap, arith}
use Rattle.ax_trees.specs.Lists.{contains}
use Rattle.ax_managers.proofs.contest.watched_of.Goals as goal

pub returns-clause-watched : goal.returns-clause-watched
returns-clause-watched g c z h t =
    let none = ap (λ xs. contains xs z) c.new-nodes.ensures in
    c.in_ok-marks.ensures.marked z (grind (arith, none, h, c.in_ok-add_all.ensures z, c.in_ok-add_all-2.ensures z)) t
