use Rattle.std.proofs.Common.{◌≡◌, ◌++◌, drop, nat_eq}
use Rattle.std.specs.Prelude.{filter}
use Rattle.std.specs.HashMap.{get}
use Rattle.ax_managers.specs.Contests.{is_rival}
use Rattle.ax_managers.proofs.contest.rivals_of.Given as goal

abbrev pub invariant-loop-id : goal.invariant-loop-id
invariant-loop-id l =
    l.out ++ filter (λ z. is_rival (get nat_eq l.hosts) (get nat_eq l.names z) z) (drop l.id-index l.ids) ≡ filter (λ z. is_rival (get nat_eq l.hosts) (get nat_eq l.names z) z) l.ids
