-- An index of the nodes that name trees.
use Rattle.std.specs.Prelude.{ℕ, ◌≡◌, false, nat_eq, if◌then◌else◌, List, Some}
use Rattle.std.specs.HashMap.{get}
use Rattle.std.specs.FinMap as fin
use Rattle.ax_trees.specs.Lists.{contains}
use Rattle.ax_tree.specs.Tree.{Tree}
use Rattle.ax_managers.specs.declared.index.Index.{Index}
use Rattle.ax_managers.specs.declared.contest.Contest.{Contest}
use Rattle.ax_order.specs.Marks.{is_marked}
use Rattle.ax_managers.specs.Naming.{named_at, first_naming}
use Rattle.ax_managers.specs.Watching.{IsWatching}

-- the index is of the tree m
pub record IsOf (m : Tree) (i : Index) : Type 0 where
  pub names : (z : ℕ) → fin.get i.named z ≡ named_at m z
  pub firsts : (u : ℕ) → fin.get i.hosts u ≡ first_naming m u
  pub watching : IsWatching m (is_marked (get nat_eq i.watched))

-- Each host names its tree, and a node that names a tree is its host or a rival.
pub record IsSoundIndex (i : Index) : Type 0 where
  pub hosting : (u z : ℕ) → fin.get i.hosts u ≡ Some z → fin.get i.named z ≡ Some u
  pub listed : (z u : ℕ) → fin.get i.named z ≡ Some u → contains i.rivals z ≡ false → fin.get i.hosts u ≡ Some z

-- j is i with what a contest over renamed nodes gave
pub record Settles (i j : Index) (renamed : List ℕ) (c : Contest) : Type 0 where
  pub names : (z : ℕ) → fin.get j.named z ≡ (if contains renamed z then get nat_eq c.names z else fin.get i.named z)
  pub firsts : (u : ℕ) → fin.get j.hosts u ≡ (if contains c.trees u then get nat_eq c.hosts u else fin.get i.hosts u)
  pub rivals : j.rivals ≡ c.rivals
  pub watched : j.watched ≡ c.watched
