use Rattle.std.proofs.Common.{drop, ap, ◌∙◌}
use Rattle.std.proofs.lemmas.List.{drop-drop}
use Rattle.ax_core.proofs.queue.Queue.skip.Goals as goal

pub loop-at-preserved : goal.loop-at-preserved
loop-at-preserved g c = c.drop_first.ensures ∙ (ap (drop 1) c.loop-at.invariant ∙ drop-drop 1 c.loop-at._at c.args.self.now)
