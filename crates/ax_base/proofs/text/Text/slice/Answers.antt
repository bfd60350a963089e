use Rattle.std.proofs.Common.{ap, ◌∙◌, slice_range}
use Rattle.ax_base.proofs.text.Text.slice.Goals as goal

pub returns-clause-ok : goal.returns-clause-ok
returns-clause-ok c = c.in_ok-part.ensures ∙ ap (λ cs. slice_range cs c.args.start c.args.end) c.as_str.ensures
