use Rattle.std.proofs.Common.{ℕ, List, ◌++◌, map, length, slice_get, sym, ap, ◌∙◌, arith}
use Rattle.ax_tree.specs.Bundles.{rounds}
use Rattle.ax_tree.specs.Tree.{Tree}
use Rattle.ax_tree.specs.Updates.{nodes_part}
use Rattle.ax_frame.specs.Frames.{all_kept}
use Rattle.ax_frame.proofs.Rounds.{fewer, round_parts}
use Rattle.ax_frame.proofs.passing.send_marks.Goals as goal

pub loop-d-smaller : goal.loop-d-smaller
loop-d-smaller c =
    let head = sym (ap (λ (ms : List ℕ). slice_get ms 0) c.marks.ensures.marks) ∙ sym c.in-Some.ensures in
    let less = fewer c.loop-d.serializer.client c.loop-d.source.tree c.loop-d.source.marks c.send_at.new.source.marks c.in-Some.d head c.in_ok-send_at.ensures.marks in
    omega (arith, less)

pub loop-d-preserved : goal.loop-d-preserved
loop-d-preserved c =
    let head = sym (ap (λ (ms : List ℕ). slice_get ms 0) c.marks.ensures.marks) ∙ sym c.in-Some.ensures in
    record {
      tree = c.send_at.ensures.tree ∙ c.loop-d.invariant.tree;
      flag = c.send_at.ensures.flag ∙ c.loop-d.invariant.flag;
      stays = λ f es sh p sd. c.send_at.ensures.stays f (es ∙ sym c.loop-d.invariant.tree) sh p (c.loop-d.invariant.stays f es sh p sd);
      updates = ap (λ (t : Tree). map nodes_part (all_kept c.send_at.new.serializer.kept c.send_at.new.back) ++ rounds (length c.send_at.new.source.marks) c.send_at.new.serializer.client t.trees c.send_at.new.source.marks) c.send_at.ensures.tree
          ∙ round_parts c.loop-d.serializer.client c.send_at.new.serializer.client c.loop-d.source.tree c.loop-d.source.marks c.send_at.new.source.marks c.in-Some.d (all_kept c.loop-d.serializer.kept c.loop-d.back) (all_kept c.send_at.new.serializer.kept c.send_at.new.back) head
          c.in_ok-send_at.ensures.client c.in_ok-send_at.ensures.marks c.in_ok-send_at.ensures.kept ∙ c.loop-d.invariant.updates;
    }
