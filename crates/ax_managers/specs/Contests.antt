-- Which nodes are the first to name some trees.
use Rattle.std.specs.Prelude.{ℕ, ◌≡◌, Bool, true, false, not, ◌||◌, nat_eq, if◌then◌else◌, List, ◌++◌, filter, filter_map, Option, Some, None}
use Rattle.std.specs.HashMap.{get}
use Rattle.std.specs.FinMap as fin
use Rattle.ax_trees.specs.Trees.{ids, has}
use Rattle.ax_trees.specs.Lists.{contains, first_that}
use Rattle.ax_tree.specs.Tree.{Tree}
use Rattle.ax_order.specs.Marks.{IsMarking, is_marked}
use Rattle.ax_managers.specs.declared.index.Index.{Index}
use Rattle.ax_managers.specs.declared.contest.Contest.{Contest}
use Rattle.ax_managers.specs.Naming.{named_at, is_id}

-- a node names a tree of which it isn't the host
abbrev pub is_rival : (ℕ → Option ℕ) → Option ℕ → ℕ → Bool
is_rival hosts None z = false
is_rival hosts (Some u) z = not (is_id (hosts u) z)

-- the trees that renamed nodes or rivals named, and those that renamed nodes name in m
abbrev pub trees_asked : Index → Tree → List ℕ → List ℕ
trees_asked i m renamed = (filter_map (fin.get i.named) renamed ++ filter_map (fin.get i.named) i.rivals) ++ filter_map (named_at m) renamed

-- a rival, or a host that has rivals
abbrev pub is_contested : Contest → ℕ → Bool
is_contested c z = contains c.rivals z || contains (filter_map (get nat_eq c.hosts) (filter_map (get nat_eq c.names) c.rivals)) z

-- The contest for these trees: `nodes` are all that may be hosts of them, and the first of them in m's pre-order to name one is its host.
-- The rivals and the hosts that have some are watched, with all above them.
pub record IsContest (i : Index) (m : Tree) (renamed : List ℕ) (c : Contest) : Type 0 where
  pub nodes : List ℕ
  pub trees : c.trees ≡ trees_asked i m renamed
  pub are : (z : ℕ) → contains nodes z ≡ (contains renamed z || (contains i.rivals z || contains (filter_map (fin.get i.hosts) c.trees) z))
  pub names : (z : ℕ) → get nat_eq c.names z ≡ (if contains renamed z then named_at m z else (if contains nodes z then fin.get i.named z else None))
  pub hosts : (u : ℕ) → get nat_eq c.hosts u ≡ first_that (λ z. is_id (get nat_eq c.names z) u) (filter (contains nodes) (ids m.trees))
  pub rivals : c.rivals ≡ filter (λ z. is_rival (get nat_eq c.hosts) (get nat_eq c.names z) z) nodes
  pub marking : IsMarking m.trees (get nat_eq c.watched)
  pub watched : (z : ℕ) → is_contested c z ≡ true → has m.trees z ≡ true → is_marked (get nat_eq c.watched) z ≡ true
