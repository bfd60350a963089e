use Rattle.std.proofs.Common.{◌++◌, map, length, sym, ap, ◌∙◌}
use Rattle.ax_tree.specs.Bundles.{rounds}
use Rattle.ax_tree.specs.Tree.{Tree}
use Rattle.ax_tree.specs.Updates.{nodes_part}
use Rattle.ax_frame.specs.Frames.{all_kept}
use Rattle.ax_frame.proofs.Rounds.{ok_then}
use Rattle.ax_frame.proofs.passing.send_all.Goals as goal

pub returns-clause-stays : goal.returns-clause-stays
returns-clause-stays c = λ f es sh p sd. c.send_marks.ensures.stays f (es ∙ sym c.send_root.ensures.tree) sh p (c.send_root.ensures.stays f es sh p sd)

pub returns-clause-updates : goal.returns-clause-updates
returns-clause-updates c =
    ok_then c.send_marks.result
    (λ e. e ∙ ap (λ (t : Tree). map nodes_part (all_kept c.send_root.new.serializer.kept c.send_root.new.back) ++ rounds (length c.send_root.new.source.marks) c.send_root.new.serializer.client t.trees c.send_root.new.source.marks) c.send_root.ensures.tree
    ∙ c.in_ok-send_root.ensures.updates)
    c.send_marks.ensures.updates
