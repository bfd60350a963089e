use Rattle.std.proofs.Common.{length, ap, sym, subst, ◌∙◌}
use Rattle.ax_forest.specs.Past.{Past, forest_of}
use Rattle.ax_stays.specs.Received.{KeepsReceipts}
use Rattle.ax_stays.proofs.look.Look.at.Goals as goal

pub invariant_of-result : goal.invariant_of-result
invariant_of-result c = record {
  shown = c.in_ok-view.ensures ∙ ap forest_of (sym c.of.ensures);
  entries = c.len.ensures ∙ (ap length c.history.ensures ∙ ap (λ (p : Past). length p.history) (sym c.of.ensures));
  receipts = subst (λ (p : Past). KeepsReceipts p.history c.args.receipts) (sym c.of.ensures) c.requires;
}
