use Rattle.std.proofs.Common.{length, ap, ◌∙◌}
use Rattle.ax_forest.specs.Past.{Past}
use Rattle.ax_stays.proofs.look.Look.entries.Goals as goal

pub returns : goal.returns
returns c = c.self.invariant.entries ∙ ap (λ (p : Past). length p.history) c.self.view_is
