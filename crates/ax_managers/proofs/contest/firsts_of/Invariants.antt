use Rattle.std.proofs.Common.{◌≡◌, ℕ, take, nat_eq}
use Rattle.std.specs.HashMap.{get}
use Rattle.ax_trees.specs.Lists.{first_that}
use Rattle.ax_managers.specs.Naming.{is_id}
use Rattle.ax_managers.proofs.contest.firsts_of.Given as goal

abbrev pub invariant-loop-id : goal.invariant-loop-id
invariant-loop-id l = (u : ℕ) → get nat_eq l.hosts u ≡ first_that (λ z. is_id (get nat_eq l.names z) u) (take l.id-index l.ids)
