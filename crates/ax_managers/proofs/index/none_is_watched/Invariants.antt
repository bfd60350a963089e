use Rattle.std.proofs.Common.{◌≡◌, ℕ, true, false, take, nat_eq}
use Rattle.std.specs.HashMap.{get}
use Rattle.ax_trees.specs.Lists.{contains}
use Rattle.ax_order.specs.Marks.{is_marked}
use Rattle.ax_managers.proofs.index.none_is_watched.Given as goal

abbrev pub invariant-loop-id : goal.invariant-loop-id
invariant-loop-id l = (z : ℕ) → contains (take l.id-index l.ids) z ≡ true → is_marked (get nat_eq l.watched) z ≡ false
