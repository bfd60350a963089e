-- The hanging rule by what was last told of each tree.
use Rattle.std.specs.Prelude.{ℕ, ◌==◌, if◌then◌else◌, Option, Some, None}
use Rattle.std.specs.FinMap as fin
use Rattle.ax_base.specs.declared.position.Place.{Place}
use Rattle.ax_tree.specs.Forest.{is_place}
use Rattle.ax_managers.specs.Managed.{LastTold}

abbrev pub host_place : ℕ → Option ℕ → Option Place
host_place p None = None
host_place p (Some z) = Some (record { tree = p; node = z })

abbrev pub told_host_in : Option LastTold → ℕ → ℕ → Option Place
told_host_in None p t = None
told_host_in (Some s) p t = host_place p (fin.get s.hosts t)

abbrev pub told_host_under : (ℕ → Option LastTold) → Option ℕ → ℕ → Option Place
told_host_under g None t = None
told_host_under g (Some p) t = told_host_in (g p) p t

abbrev pub told_host_of : (ℕ → Option LastTold) → ℕ → ℕ → Option LastTold → Option Place
told_host_of g first t None = None
told_host_of g first t (Some s) = if s.rooted then (if first == t then None else told_host_under g s.parent t) else None

-- where the tree t hangs
abbrev pub told_host : (ℕ → Option LastTold) → ℕ → ℕ → Option Place
told_host g first t = told_host_of g first t (g t)

abbrev pub where_hosted : (ℕ → Option LastTold) → ℕ → Place → Option ℕ → Option ℕ
where_hosted g first p None = None
where_hosted g first p (Some t) = if is_place p (told_host g first t) then Some t else None

abbrev pub told_hosted_in : (ℕ → Option LastTold) → ℕ → Place → Option LastTold → Option ℕ
told_hosted_in g first p None = None
told_hosted_in g first p (Some s) = where_hosted g first p (fin.get s.named p.node)

-- which tree hangs at the place p
abbrev pub told_hosted : (ℕ → Option LastTold) → ℕ → Place → Option ℕ
told_hosted g first p = told_hosted_in g first p (g p.tree)
