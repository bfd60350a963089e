use Rattle.std.proofs.Common.{ap, sym, ◌∙◌}
use Rattle.ax_stays.proofs.Cuts.{cuts_in}
use Rattle.ax_stays.proofs.frame_round.FrameRound.new.Goals as goal

pub invariant_of-result : goal.invariant_of-result
invariant_of-result c = c.new-2.ensures ∙ ap cuts_in (sym c.new.ensures.new)
