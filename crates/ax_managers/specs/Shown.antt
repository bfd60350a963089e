-- Summaries as contracts see them.
use Rattle.std.specs.Prelude.{ℕ, ◌≡◌, Bool, false, not, get_or, if◌then◌else◌, map, Option, Some, None}
use Rattle.std.specs.Ordering.{nat_cmp}
use Rattle.std.specs.FinMap as fin
use Rattle.ax_order.specs.declared.marks.Branches.{Branches}
use Rattle.ax_managers.specs.declared.index.Index.{Index}
use Rattle.ax_managers.specs.declared.gone.Gone.{Gone}
use Rattle.ax_managers.specs.Managed.{LastTold, Managed}

-- an id alone, of what is kept at it
abbrev pub keyed : ℕ × Branches → ℕ × ℕ
keyed e = (e.0, 0)

abbrev pub told_by : Bool → Option ℕ → Index → LastTold
told_by rooted parent i = record { rooted = rooted; parent = parent; named = i.named; hosts = i.hosts; watched = fin.from_entries (map keyed i.watched.entries) }

abbrev pub is_gone : Gone → ℕ → Bool
is_gone gone t = get_or gone.flags t false

-- what was told of a tree that isn't gone
abbrev pub told_at : fin.FinMap nat_cmp LastTold → Gone → ℕ → Option LastTold
told_at m gone t = if is_gone gone t then None else fin.get m t

abbrev pub shown : ℕ → fin.FinMap nat_cmp LastTold → Gone → Managed
shown first m gone = record { first = first; trees = fin.retain_keys m (λ t. not (is_gone gone t)) }

-- each host names its tree
abbrev pub Agrees : LastTold → Type 0
Agrees s = (u z : ℕ) → fin.get s.hosts u ≡ Some z → fin.get s.named z ≡ Some u

abbrev pub AllAgree : fin.FinMap nat_cmp LastTold → Type 0
AllAgree m = (t : ℕ) (s : LastTold) → fin.get m t ≡ Some s → Agrees s
