use Rattle.std.proofs.Common.{ℕ, ap, ◌∙◌, arith, Some}
use Rattle.std.specs.Prelude.{slice_set}
use Rattle.ax_core.proofs.Listed.{placed_next}
use Rattle.ax_core.proofs.places.table_of.Goals as goal

pub loop-tree-preserved : goal.loop-tree-preserved
loop-tree-preserved c = record {
  place = omega arith;
  table = placed_next c.args.trees.now c.loop-tree.tree-index c.tree-item.result c.loop-tree.place c.loop-tree.table c.make_room.new.table c.set.new.self c.requires
      (record { low = c.loop-tree-test.true; item = c.tree-item.is }) c.loop-tree.invariant.place c.loop-tree.invariant.table c.make_room.ensures.same c.in_ok-make_room.ensures.room
      (c.set.ensures ∙ ap (λ (n : ℕ). slice_set c.make_room.new.table n (Some c.loop-tree.place)) c.get.ensures.same);
}
