use Rattle.std.proofs.Common.{◌≡◌, true, subst}
use Rattle.ax_marks.specs.MarkList.{are_distinct}
use Rattle.ax_marks.proofs.HoleLemmas.{kept-are_distinct}
use Rattle.ax_marks.proofs.mark_list.Marks.len.Goals as goal

pub returns-clause-distinct : goal.returns-clause-distinct
returns-clause-distinct c = subst (λ ids. are_distinct ids ≡ true) c.self.view_is (kept-are_distinct _ _ _ _ c.self.invariant)
