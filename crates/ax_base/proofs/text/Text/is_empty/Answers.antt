use Rattle.std.proofs.Common.{◌≡◌, [], length, sym, ap, ◌∙◌}
use Rattle.std.specs.Str.{chars}
use Rattle.std.proofs.lemmas.Bool.{eqb-true, eq-eqb}
use Rattle.ax_base.proofs.TextLemmas.{no_items, bytes-of-chars}
use Rattle.ax_base.proofs.text.Text.is_empty.Goals as goal

pub returns : goal.returns
unfolding chars
returns c = (
  λ t. let none : c.as_str.result.now ≡ [] = no_items _ (eqb-true _ _ (sym c.is_empty.ensures ∙ t)) in
      sym c.as_str.ensures ∙ ap chars none,
  λ e. let none : c.as_str.result.now ≡ [] = sym (bytes-of-chars c.as_str.result.now [] c.as_str.utf8 (c.as_str.ensures ∙ e)) in
      c.is_empty.ensures ∙ eq-eqb _ _ (ap length none),
)
