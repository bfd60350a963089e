use Rattle.std.proofs.Common.{◌≡◌, length}
use Rattle.std.specs.Vec.Iter.{into_iter_items}
use Rattle.serde_json.specs.View.{items_view}
use Rattle.ax_json.specs.Walk.{each}
use Rattle.ax_json.proofs.Walks.{with_front}
use Rattle.ax_json.proofs.list.each.Given as goal

abbrev pub invariant-loop-v : goal.invariant-loop-v
invariant-loop-v g l = with_front l.found (each (g.F.Form.reads l.form) (length l.found) (items_view (into_iter_items l.v-iterator))) ≡ each (g.F.Form.reads l.form) 0 (items_view l.fn.list.items)
