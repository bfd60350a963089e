use Rattle.std.proofs.Common.{ℕ, List, Vec, Global, ◌++◌, ap, ◌∙◌}
use Rattle.ax_run_rules.specs.LineText.{lines_text}
use Rattle.ax_top.proofs.Finales.{report_told}
use Rattle.ax_top.proofs.running.put_lines.Goals as goal

pub returns : goal.returns
returns c =
    let h = report_told c.requires c.in_ok-tell_finale.ensures.whole c.in_ok-tell_finale.ensures.done in
    record {
      lines = h.lines;
      is = h.is;
      whole = h.whole;
      text = c.report.view_is ∙ (h.text ∙ ap (λ (xs : List ℕ). xs ++ lines_text h.lines) (ap (λ (v : Vec ℕ Global). v.items) c.replace.ensures.value));
    }
