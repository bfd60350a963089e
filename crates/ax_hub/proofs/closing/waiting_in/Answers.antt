use Rattle.std.proofs.Common.{◌++◌, ap, ◌∙◌}
use Rattle.ax_hub.proofs.closing.waiting_in.Goals as goal

pub returns : goal.returns
returns g c = record {
  left = c.in_ok-left.left.items;
  is_left = record { known = c.in_ok-left.ensures.known; whole = c.in_ok-left.ensures.whole };
  all = c.in_ok-add_all-2.ensures ∙ ap (λ l. l ++ c.args.kept.items) (c.in_ok-add_all.ensures ∙ ap (λ l. l ++ c.in_ok-left.left.items) c.in_ok-waiting.ensures);
}
