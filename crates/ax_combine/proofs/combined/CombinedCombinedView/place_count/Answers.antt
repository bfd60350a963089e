use Rattle.std.proofs.Common.{subst}
use Rattle.ax_combine.specs.Kept.{Joined}
use Rattle.ax_report.specs.Combining.{AreNodes}
use Rattle.ax_combine.proofs.Printed.{nodes_there}
use Rattle.ax_combine.proofs.combined.CombinedCombinedView.place_count.Goals as goal

pub returns-clause-numbered : goal.returns-clause-numbered
returns-clause-numbered c = subst (λ (j : Joined). AreNodes j.places j.tree) c.self.view_is (nodes_there c.self.inside.about c.self.inside.rows c.self.inside.numbering c.self.invariant)
