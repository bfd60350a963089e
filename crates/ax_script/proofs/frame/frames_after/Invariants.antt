use Rattle.std.proofs.Common.{◌≡◌, []}
use Rattle.std.specs.Vec.Iter.{into_iter_items}
use Rattle.serde_json.specs.View.{items_view}
use Rattle.ax_script.specs.Frames.{frames_after}
use Rattle.ax_script.specs.Trees.{has_tree, knows}
use Rattle.ax_script.proofs.frame.frames_after.Given as goal

abbrev pub invariant-loop-v : goal.invariant-loop-v
invariant-loop-v l = record {
  same : knows l.taken ≡ has_tree l.found;
  rest : frames_after l.version l.found (items_view (into_iter_items l.v-iterator)) ≡ frames_after l.version [] (items_view l.fn.list.items);
}
