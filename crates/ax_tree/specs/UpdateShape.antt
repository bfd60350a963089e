-- Updates with something else known of each node, and what trees of the same shape have in common.
use Rattle.std.specs.Prelude.{ℕ, ◌≡◌, map, Result, Ok, Err}
use Rattle.ax_trees.specs.Trees.{Trees, has, has_root, root_of}
use Rattle.ax_trees.specs.Nodes.{Node, below}
use Rattle.ax_trees.specs.Shape.{mapped}
use Rattle.ax_tree.specs.declared.update.Refusal.{Refusal}
use Rattle.ax_tree.specs.UpdateRule.{Update}

abbrev pub mapped_node : {X E : Type 0} → (X → E) → Node X → Node E
mapped_node g n = record { id = n.id; known = g n.known; children = n.children }

abbrev pub mapped_update : {X E : Type 0} → (X → E) → Update X → Update E
mapped_update g u = record { clear = u.clear; root = u.root; nodes = map (mapped_node g) u.nodes }

abbrev pub mapped_result : {X E : Type 0} → (X → E) → Result (Trees X) Refusal → Result (Trees E) Refusal
mapped_result g (Ok f) = Ok (mapped g f)
mapped_result g (Err e) = Err e

-- the same root and the same parent of each id, whatever the order of children
pub record SameShape {X E : Type 0} (c : Trees X) (k : Trees E) : Type 0 where
  pub held : (z : ℕ) → has c z ≡ has k z
  pub under : (y z : ℕ) → has_root (below c y) z ≡ has_root (below k y) z
  pub root : root_of c ≡ root_of k
