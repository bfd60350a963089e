use Rattle.std.proofs.Common.{◌≡◌, ◌≤◌, nat_eq, length}
use Rattle.std.specs.Vec.{vec_capacity}
use Rattle.indexmap.specs.IndexMap.{get, index_map_len}
use Rattle.ax_marks.proofs.TogetherLemmas.{IsMoving}
use Rattle.ax_marks.proofs.mark_list.together.Given as goal

abbrev pub invariant-loop-id : goal.invariant-loop-id
invariant-loop-id l = record {
  moving : IsMoving l.order l.ids.items (λ id. get nat_eq l.places id) l.id-index;
  room : length l.order ≤ vec_capacity l.ids;
  count : index_map_len l.places ≡ index_map_len l.fn.places;
}
