use Rattle.std.proofs.Common.{ap, ◌∙◌}
use Rattle.ax_serializer.specs.Sending.{Sending}
use Rattle.ax_frame.specs.Frames.{all_kept}
use Rattle.ax_frame.proofs.Rounds.{completes}
use Rattle.ax_frame.proofs.passing.send_bundle.Goals as goal

pub returns-clause-client : goal.returns-clause-client
returns-clause-client c = λ f es sh p sd.
    ap (λ (z : Sending). z.client) c.in_ok-bundle.ensures.ok ∙ c.keep_back.ensures.client
    ∙ completes c.args.source.now.tree c.args.source.now.marks c.send_all.new.source.marks c.args.serializer.now.client c.send_all.new.serializer.client (all_kept c.args.serializer.now.kept c.args.back.now)
    (all_kept c.send_all.new.serializer.kept c.send_all.new.back) c.send_all.ensures.stays c.in_ok-send_all.ensures.updates f es sh p sd
