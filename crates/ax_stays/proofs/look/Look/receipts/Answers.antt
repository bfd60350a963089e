use Rattle.std.proofs.Common.{length, ap, ◌∙◌}
use Rattle.ax_forest.specs.Past.{Past}
use Rattle.ax_stays.specs.Received.{received}
use Rattle.ax_stays.proofs.look.Look.receipts.Goals as goal

pub returns : goal.returns
returns c = c.self.invariant.receipts.count ∙ ap (λ (p : Past). length (received p.history)) c.self.view_is
