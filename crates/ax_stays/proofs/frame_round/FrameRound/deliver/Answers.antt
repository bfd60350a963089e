use Rattle.std.proofs.Common.{ap, ◌∙◌}
use Rattle.ax_stays.specs.FrameCalls.{grown, delivery_entries}
use Rattle.ax_stays.proofs.Cuts.{delivery_cuts}
use Rattle.ax_stays.proofs.Journals.{delivery_grown}
use Rattle.ax_stays.proofs.frame_round.FrameRound.deliver.Goals as goal

pub invariant_of-self : goal.invariant_of-self
invariant_of-self c = delivery_cuts c.args.n c.deliver.result c.self.inside.frame c.deliver.new.self c.self.inside.made c.deliver.ensures.ok c.deliver.ensures.err c.self.invariant

pub returns : goal.returns
returns c =
    delivery_grown c.args.n c.deliver.result c.self.inside.frame c.deliver.new.self c.deliver.ensures.ok c.deliver.ensures.err ∙ ap (grown (delivery_entries c.args.n c.deliver.result)) c.self.view_is
