use Rattle.std.proofs.Common.{ap, ◌∙◌}
use Rattle.ax_marks.specs.Holes.{somes}
use Rattle.ax_marks.proofs.TogetherLemmas.{kept_together, somes-filled}
use Rattle.ax_marks.proofs.mark_list.Marks.drop_holes.Goals as goal

pub invariant_of-self-in-Ok : goal.invariant_of-self-in-Ok
invariant_of-self-in-Ok c =
    kept_together _ _ _ _ _ _ _ _ c.self.invariant c.as_slice.ensures.value c.together.ensures.items c.together.ensures.placed c.together.ensures.count

pub returns-in-Ok : goal.returns-in-Ok
returns-in-Ok c = ap somes c.together.ensures.items ∙ somes-filled _ ∙ ap somes c.as_slice.ensures.value ∙ c.self.view_is
