use Rattle.std.proofs.Common.{ap, sym, ◌∙◌}
use Rattle.ax_marks.specs.MarkList.{has}
use Rattle.ax_marks.proofs.HoleLemmas.{has_is}
use Rattle.ax_marks.proofs.mark_list.Marks.has.Goals as goal

pub returns : goal.returns
returns c = c.contains_key.ensures ∙ sym (has_is _ _ _ _ c.args.id c.self.invariant) ∙ ap (λ ids. has ids c.args.id) c.self.view_is
